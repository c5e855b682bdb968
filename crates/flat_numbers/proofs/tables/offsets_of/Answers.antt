use Rattle.std.proofs.Common.{◌∙◌, arith, ap, map}
use Rattle.std.proofs.lemmas.Option.{slice_get_within}
use Rattle.flat_numbers.proofs.Offsets.{cells_next}
use Rattle.flat_numbers.proofs.Reading.{element_read, map_last}
use Rattle.flat_numbers.proofs.tables.offsets_of.Goals as goal

pub loop-cell-preserved : goal.loop-cell-preserved
loop-cell-preserved c =
    cells_next c.args.cells.now c.loop-cell.cell-index _ _ c.in_ok-offsets_of_cell.field-0.items c.cell-item.result
    (element_read c.args.cells.now c.loop-cell.cell-index c.cell-item.result c.loop-cell-test.true c.cell-item.is) c.in_ok-offsets_of_cell.ensures
    (ap (map (λ row. row.items)) c.in_ok-push.ensures.items ∙ map_last (λ row. row.items) c.loop-cell.rows.items c.in_ok-offsets_of_cell.field-0) c.loop-cell.invariant

pub returns : goal.returns
returns c = λ number cell is. c.loop-cell.invariant.known number cell (let l = slice_get_within c.args.cells.now number cell is in omega (arith, l, c.loop-cell-test.false)) is
