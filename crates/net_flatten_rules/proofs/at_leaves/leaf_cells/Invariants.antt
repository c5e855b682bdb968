use Rattle.std.proofs.Common.{◌≡◌, ◌++◌, drop, filter}
use Rattle.net_flatten_rules.specs.FlatDesign.{stands_at}
use Rattle.net_flatten_rules.proofs.at_leaves.leaf_cells.Given as goal

abbrev pub invariant-loop-number : goal.invariant-loop-number
invariant-loop-number l = l.numbers.items ++ filter (stands_at l.spots l.leaves) (drop l.number-index l.order) ≡ filter (stands_at l.spots l.leaves) l.order
