use Rattle.std.proofs.Common.{◌≡◌, ◌++◌, map, take}
use Rattle.std.specs.List.{list_any}
use Rattle.net_hier.specs.declared.nodes.Node.{Node}
use Rattle.edif_design.specs.CellRules.{same_node}
use Rattle.edif_rules.specs.Spots.{node_at}
use Rattle.edif_rules.proofs.joined.add_spots.Given as goal

abbrev pub invariant-loop-spot : goal.invariant-loop-spot
invariant-loop-spot l = (other : Node) → list_any (same_node other) l.taken ≡ list_any (same_node other) (l.initial.taken ++ map node_at (take l.spot-index l.spots))
