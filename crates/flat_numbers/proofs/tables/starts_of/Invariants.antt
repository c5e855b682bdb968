use Rattle.flat_numbers.proofs.Rows.{KnowsStarts}
use Rattle.flat_numbers.proofs.tables.starts_of.Given as goal

abbrev pub invariant-loop-spot : goal.invariant-loop-spot
invariant-loop-spot l = KnowsStarts l.cells l.spots l.spot-index l.starts.items l.before
