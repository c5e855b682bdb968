use Rattle.std.proofs.Common.{◌+◌, ◌*◌, []}
use Rattle.readers.specs.Readers.{room}
use Rattle.readers.proofs.Loops.{Collects}
use Rattle.edif_keywords.specs.Language.{edif}
use Rattle.edif_values.specs.Values.{AreTrees}
use Rattle.edif_values.specs.Sizes.{list_size, tree_size}
use Rattle.edif_status.specs.Grammar.{trees}
use Rattle.edif_status.proofs.user.+trees.Given as goal

abbrev pub decreases-read_tree : goal.decreases-read_tree
decreases-read_tree g l = 3 * l.levels + 1

abbrev pub decreases-read_trees : goal.decreases-read_trees
decreases-read_trees g l = 3 * l.levels + 2

abbrev pub decreases-read_list : goal.decreases-read_list
decreases-read_list g l = 3 * l.levels + 3

abbrev pub invariant-read_trees-loop-trees : goal.invariant-read_trees-loop-trees
invariant-read_trees-loop-trees g l =
    Collects edif (trees l.levels []) (trees l.levels l.trees) (AreTrees l.levels l.trees) (list_size tree_size l.trees) l.cursor l.fn.cursor (g.S.Source.supply l.source) (g.S.Source.supply l.fn.source)

abbrev pub decreases-read_trees-loop-trees : goal.decreases-read_trees-loop-trees
decreases-read_trees-loop-trees g l = room l.cursor
