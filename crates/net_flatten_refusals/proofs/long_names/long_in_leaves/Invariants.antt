use Rattle.std.proofs.Common.{◌≡◌, List, drop}
use Rattle.net_hier.specs.Paths.{Path}
use Rattle.flat_classes.specs.Ways.{ArePaths}
use Rattle.net_flatten_rules.specs.Rules.{first_of}
use Rattle.net_flatten_refusals.specs.LongNames.{refused_leaves}
use Rattle.net_flatten_refusals.proofs.long_names.long_in_leaves.Given as goal

abbrev pub invariant-loop-leaf : goal.invariant-loop-leaf
invariant-loop-leaf l = (paths : List Path) → ArePaths l.hier.cells l.spots paths →
    first_of (refused_leaves l.hier.cells l.spots paths l.cell (drop l.leaf-index l.leaves)) ≡ first_of (refused_leaves l.hier.cells l.spots paths l.cell l.leaves)
