use Rattle.std.proofs.Common.{arith}
use Rattle.edif_values.proofs.Sizes.{size-List}
use Rattle.edif_status.proofs.Kept.{list_within}
use Rattle.edif_status.proofs.user.+trees.Goals as goal

pub read_list-returns-clause-value : goal.read_list-returns-clause-value
read_list-returns-clause-value g t c = list_within _ _ c.in_ok-trees.ensures.value

pub read_list-returns-clause-size : goal.read_list-returns-clause-size
read_list-returns-clause-size g t c = omega (arith, size-List c.in_ok-trees.trees, c.in_ok-trees.ensures.size, c.in_ok-begin_list.ensures.value.2)
