use Rattle.flat_numbers.proofs.Offsets.{KnowsOffsets}
use Rattle.flat_numbers.proofs.tables.offsets_of_cell.Given as goal

abbrev pub invariant-loop-port : goal.invariant-loop-port
invariant-loop-port l = KnowsOffsets l.ports l.port-index l.row.items l.before
