use Rattle.net_flatten_refusals.proofs.RepeatLaws.{Searched}
use Rattle.net_flatten_refusals.proofs.repeats.first_by_digests.Given as goal

abbrev pub invariant-loop-leaf : goal.invariant-loop-leaf
invariant-loop-leaf l = Searched l.hier.cells l.spots l.digests l.leaves l.leaf-index l.before
