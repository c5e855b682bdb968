use Rattle.std.proofs.Common.{◌≡◌, length, false, true, ◌∙◌, ap, arith, slice_get, get_or}
use Rattle.std.specs.Prelude.{nat_lt, option_map}
use Rattle.std.proofs.lemmas.Bool.Decides.{nat_tests}
use Rattle.edif_design.specs.CellRules.{means_view}
use Rattle.edif_design.specs.References.{file_cells}
use Rattle.edif_design.proofs.Finding.{no_views_found, views_found}
use Rattle.edif_design.proofs.tables.FileTables.means_view.Goals as goal

pub returns-in_ok-means-in-Some : goal.returns-in_ok-means-in-Some
returns-in_ok-means-in-Some c =
    let t : true ≡ nat_lt c.args.number (length c.self.inside.views.items) = c.in-Some.ensures.lookup.0 ∙ ap (λ vs. nat_lt c.args.number (length vs)) c.deref.ensures.value in
    views_found c.self.inside.file.now c.self.inside.places.items c.self.inside.views.items c.self.inside.libraries c.self.inside.cells.items c.self.invariant c.args.number c.in-Some.views.now (grind (arith, nat_tests))
    (c.in-Some.ensures.lookup.1 ∙ ap (λ vs. get_or vs c.args.number c.in-Some.views.now) c.deref.ensures.value) c.args.spelling.now c.in_ok-means-in-Some.means c.in_ok-means-in-Some.ensures
    ∙ ap (λ file. option_map (λ cell. means_view cell c.args.spelling.now) (slice_get (file_cells file) c.args.number)) c.self.view_is

pub returns-in-None : goal.returns-in-None
returns-in-None c =
    let t : false ≡ nat_lt c.args.number (length c.self.inside.views.items) = c.in-None.ensures.lookup.0 ∙ ap (λ vs. nat_lt c.args.number (length vs)) c.deref.ensures.value in
    no_views_found c.self.inside.file.now c.self.inside.places.items c.self.inside.views.items c.self.inside.libraries c.self.inside.cells.items c.self.invariant c.args.number (grind (arith, nat_tests)) c.args.spelling.now
    ∙ ap (λ file. option_map (λ cell. means_view cell c.args.spelling.now) (slice_get (file_cells file) c.args.number)) c.self.view_is
