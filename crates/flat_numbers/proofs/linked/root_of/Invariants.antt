use Rattle.flat_numbers.proofs.Forests.{IsUnderWay}
use Rattle.flat_numbers.proofs.linked.root_of.Given as goal

abbrev pub invariant-loop-parents : goal.invariant-loop-parents
invariant-loop-parents l = IsUnderWay l.fn.parents l.parents l.number l.at

abbrev pub decreases-loop-parents : goal.decreases-loop-parents
decreases-loop-parents l = l.at
