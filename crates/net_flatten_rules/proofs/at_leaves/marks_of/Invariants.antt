use Rattle.net_flatten_rules.proofs.MarkLaws.{AreMarked}
use Rattle.net_flatten_rules.proofs.at_leaves.marks_of.Given as goal

abbrev pub invariant-loop-leaf : goal.invariant-loop-leaf
invariant-loop-leaf l = AreMarked l.spots l.leaves l.count l.leaf-index l.marks.items
