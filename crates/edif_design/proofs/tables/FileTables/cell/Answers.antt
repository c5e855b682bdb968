use Rattle.std.proofs.Common.{◌≡◌, length, false, true, ◌∙◌, ap, arith, slice_get, get_or}
use Rattle.std.specs.Prelude.{nat_lt}
use Rattle.std.proofs.lemmas.Bool.Decides.{nat_tests}
use Rattle.edif_design.specs.References.{file_cells}
use Rattle.edif_design.proofs.Finding.{no_place_found, place_found}
use Rattle.edif_design.proofs.tables.FileTables.cell.Goals as goal

pub returns-in-Some : goal.returns-in-Some
returns-in-Some c =
    let t : true ≡ nat_lt c.args.number (length c.self.inside.places.items) = c.in-Some.ensures.lookup.0 ∙ ap (λ ps. nat_lt c.args.number (length ps)) c.deref.ensures.value in
    place_found c.self.inside.file.now c.self.inside.places.items c.self.inside.views.items c.self.inside.libraries c.self.inside.cells.items c.self.invariant c.args.number c.in-Some.place.now (grind (arith, nat_tests))
    (c.in-Some.ensures.lookup.1 ∙ ap (λ ps. get_or ps c.args.number c.in-Some.place.now) c.deref.ensures.value)
    ∙ ap (λ file. slice_get (file_cells file) c.args.number) c.self.view_is

pub returns-in-None : goal.returns-in-None
returns-in-None c =
    let t : false ≡ nat_lt c.args.number (length c.self.inside.places.items) = c.in-None.ensures.lookup.0 ∙ ap (λ ps. nat_lt c.args.number (length ps)) c.deref.ensures.value in
    no_place_found c.self.inside.file.now c.self.inside.places.items c.self.inside.views.items c.self.inside.libraries c.self.inside.cells.items c.self.invariant c.args.number (grind (arith, nat_tests))
    ∙ ap (λ file. slice_get (file_cells file) c.args.number) c.self.view_is
