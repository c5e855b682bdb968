use Rattle.std.proofs.Common.{◌≡◌, List, map, take}
use Rattle.flat_classes.specs.Ways.{ArePaths}
use Rattle.net_flatten_rules.specs.FlatDesign.{leaf_instance}
use Rattle.net_hier.specs.Paths.{Path}
use Rattle.net_flatten_cells.proofs.instances.leaf_instances.Given as goal

abbrev pub invariant-loop-leaf : goal.invariant-loop-leaf
invariant-loop-leaf l = (paths : List Path) → ArePaths l.hier.cells l.spots paths → l.instances ≡ map (leaf_instance l.hier.cells l.spots paths l.cells.numbers) (take l.leaf-index l.leaves)
