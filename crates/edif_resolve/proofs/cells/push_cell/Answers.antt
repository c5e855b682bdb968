use Rattle.std.proofs.Common.{◌≡◌, ◌++◌, ◌∷◌, [], ◌∙◌, ap, sym, slice_get}
use Rattle.edif_design.specs.Design.{cell_value}
use Rattle.edif_design.specs.Reach.{is_reached}
use Rattle.edif_design.specs.References.{file_cells, linked_by, linked_cell, numbers_meant}
use Rattle.edif_design.specs.Tables.{place_of}
use Rattle.edif_resolve.proofs.Building.{cell_within, inner_good, one_added, own_good}
use Rattle.edif_resolve.proofs.cells.push_cell.Goals as goal

pub cell_of-requires-clause-few : goal.cell_of-requires-clause-few
cell_of-requires-clause-few c = cell_within c.args.tabled.now 268435456 c.args.number (place_of c.args.place.now) c.requires.small c.requires.stands

pub cell_of-requires-clause-own : goal.cell_of-requires-clause-own
cell_of-requires-clause-own c = own_good c.args.tabled.now c.requires.clean c.args.number (place_of c.args.place.now) c.requires.stands (sym c.is_reached.ensures ∙ c.if-not-is_reached.false)

pub cell_of-requires-clause-inner : goal.cell_of-requires-clause-inner
cell_of-requires-clause-inner c i number inner g h =
    inner_good c.args.tabled.now c.requires.clean c.args.number (place_of c.args.place.now) c.requires.stands (sym c.is_reached.ensures ∙ c.if-not-is_reached.false) c.as_slice.result.now
    (c.as_slice.ensures.value ∙ (c.in_ok-below.ensures ∙ ap (λ file. numbers_meant file (place_of c.args.place.now)) c.tables.ensures)) i number inner g
    (ap (λ file. slice_get (file_cells file) number) (sym c.tables-2.ensures) ∙ h)

pub returns : goal.returns
returns c =
    let below : c.as_slice.result.now ≡ numbers_meant c.args.tabled.now (place_of c.args.place.now) =
    c.as_slice.ensures.value ∙ (c.in_ok-below.ensures ∙ ap (λ file. numbers_meant file (place_of c.args.place.now)) c.tables.ensures) in
    let value : c.in_ok-cell.cell ≡ cell_value c.args.numbers.now (linked_cell c.args.tabled.now (place_of c.args.place.now)) =
    c.in_ok-cell.ensures ∙ (λ j. cell_value c.args.numbers.now (linked_by (file_cells (c.tables-2.ensures j)) c.args.place.now.cell.now (below j))) in
    c.in_ok-push.ensures.added
    ∙ ap (λ cells. c.args.cells.now ++ cells)
    (ap (λ v. v ∷ []) value ∙ one_added (is_reached c.args.tabled.now c.args.number) (cell_value c.args.numbers.now (linked_cell c.args.tabled.now (place_of c.args.place.now))) (sym c.is_reached.ensures ∙ c.if-not-is_reached.false))
