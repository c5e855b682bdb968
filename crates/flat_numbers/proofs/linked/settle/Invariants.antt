use Rattle.flat_numbers.proofs.Forests.{AreSettled}
use Rattle.flat_numbers.proofs.linked.settle.Given as goal

abbrev pub invariant-loop-number : goal.invariant-loop-number
invariant-loop-number l = AreSettled l.fn.parents l.parents l.number
