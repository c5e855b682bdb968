use Rattle.std.proofs.Common.{◌≡◌, ◌-◌, ◌^◌, min, sum_by, take}
use Rattle.edif_values.specs.Sizes.{tree_size}
use Rattle.edif_values.proofs.size.+trees.Given as goal

abbrev pub invariant-count_trees-loop-tree : goal.invariant-count_trees-loop-tree
invariant-count_trees-loop-tree l = l.count ≡ min (2 ^ 64 - 1) (sum_by tree_size (take l.tree-index l.trees))
