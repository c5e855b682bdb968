use Rattle.std.proofs.Common.{map}
use Rattle.flat_numbers.proofs.Offsets.{KnowsRows}
use Rattle.flat_numbers.proofs.tables.offsets_of.Given as goal

abbrev pub invariant-loop-cell : goal.invariant-loop-cell
invariant-loop-cell l = KnowsRows l.cells l.cell-index (map (λ row. row.items) l.rows.items)
