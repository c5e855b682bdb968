use Rattle.std.proofs.Common.{◌≡◌, ◌++◌, drop}
use Rattle.net_flatten_rules.specs.FlatDesign.{inner}
use Rattle.net_flatten_rules.proofs.leaves.inner_leaves.Given as goal

abbrev pub invariant-loop-leaf : goal.invariant-loop-leaf
invariant-loop-leaf l = l.found.items ++ inner (drop l.leaf-index l.leaves) ≡ inner l.leaves
