use Rattle.std.proofs.Common.{◌≡◌, length, false, true, get_or, ◌∙◌, ap, arith}
use Rattle.std.specs.Prelude.{nat_lt}
use Rattle.std.proofs.lemmas.Bool.Decides.{nat_tests}
use Rattle.edif_lookup.specs.Tables.{meant_by}
use Rattle.edif_design.specs.References.{cell_candidates}
use Rattle.edif_design.proofs.Finding.{cell_found, no_cell_found}
use Rattle.edif_design.proofs.tables.FileTables.find_cell.Goals as goal

pub returns-in_ok-found-in-Some : goal.returns-in_ok-found-in-Some
returns-in_ok-found-in-Some c =
    let t : true ≡ nat_lt c.args.library (length c.self.inside.cells.items) = c.in-Some.ensures.lookup.0 ∙ ap (λ ts. nat_lt c.args.library (length ts)) c.deref.ensures.value in
    c.in_ok-found-in-Some.ensures
    ∙ (cell_found c.self.inside.file.now c.self.inside.places.items c.self.inside.views.items c.self.inside.libraries c.self.inside.cells.items c.self.invariant c.args.library c.args.spelling.now c.in-Some.table.now (grind (arith, nat_tests))
    (c.in-Some.ensures.lookup.1 ∙ ap (λ ts. get_or ts c.args.library c.in-Some.table.now) c.deref.ensures.value)
    ∙ ap (λ file. meant_by (cell_candidates file c.args.library c.args.spelling.now)) c.self.view_is)

pub returns-in-None : goal.returns-in-None
returns-in-None c =
    let t : false ≡ nat_lt c.args.library (length c.self.inside.cells.items) = c.in-None.ensures.lookup.0 ∙ ap (λ ts. nat_lt c.args.library (length ts)) c.deref.ensures.value in
    no_cell_found c.self.inside.file.now c.self.inside.places.items c.self.inside.views.items c.self.inside.libraries c.self.inside.cells.items c.self.invariant c.args.library c.args.spelling.now (grind (arith, nat_tests))
    ∙ ap (λ file. meant_by (cell_candidates file c.args.library c.args.spelling.now)) c.self.view_is
