use Rattle.std.proofs.Common.{◌≡◌, ◌≤◌, ◌∙◌, ap, sym, length, arith}
use Rattle.std.proofs.lemmas.List.{length-map}
use Rattle.edif_design.specs.References.{all_cells}
use Rattle.edif_design.specs.Tables.{place_of}
use Rattle.edif_resolve.proofs.Building.{cells_done, cells_more, place_stands}
use Rattle.edif_resolve.proofs.FewParts.{cells_few}
use Rattle.edif_resolve.proofs.cells.design_cells.Goals as goal

pub overflow_cast-number-end : goal.overflow_cast-number-end
overflow_cast-number-end c =
    let e : length c.places-places.result.now ≡ length (all_cells c.args.tabled.now) = sym (length-map c.places-places.result.now place_of) ∙ ap length (c.places-places.ensures ∙ ap all_cells c.tables.ensures) in
    let f : length (all_cells c.args.tabled.now) ≤ 268435456 = cells_few c.args.tabled.now 268435456 c.requires.small in
    omega (arith, e, f)

pub push_cell-requires-clause-stands : goal.push_cell-requires-clause-stands
push_cell-requires-clause-stands c =
    place_stands c.args.tabled.now c.places-places.result.now (c.places-places.ensures ∙ ap all_cells c.tables.ensures) c.loop-number.number c.index-places-number.result (omega arith) c.index-places-number.is

pub loop-number-preserved : goal.loop-number-preserved
loop-number-preserved c =
    cells_more c.args.tabled.now c.args.numbers.now c.places-places.result.now (c.places-places.ensures ∙ ap all_cells c.tables.ensures) c.loop-number.number c.index-places-number.result (omega arith) c.index-places-number.is
    c.loop-number.cells c.push_cell.new.cells c.loop-number.invariant c.in_ok-push_cell.ensures

pub returns : goal.returns
returns c =
    cells_done c.args.tabled.now c.args.numbers.now c.places-places.result.now (c.places-places.ensures ∙ ap all_cells c.tables.ensures) c.loop-number.number (omega arith) c.requires.numbers c.loop-number.cells c.loop-number.invariant
