-- What stands for the bits of a cell.
use Rattle.std.specs.Prelude.{ℕ, Bool, false, List, Option, option_map}
use Rattle.std.specs.List.{list_any}
use Rattle.std.specs.Option.{option_map_or}
use Rattle.std.specs.Map.{lookup}
use Rattle.net_hier.specs.declared.nodes.Node.{Node}
use Rattle.net_bits.specs.Neighbours.{same_node}
use Rattle.to_verilog_classes.specs.Groups.{GroupTable, root}
use Rattle.to_verilog_wires.specs.Hubs.{hub_node}
use Rattle.to_verilog_classes.specs.Roots.{pin_port}
use Rattle.to_verilog_wires.specs.declared.hubs.Hub.{Hub}

-- classes, the ports of several bits of instances of which a bit is written, the hubs of the nodes that stand for others, and the names of the wires
pub record WiringTable : Type 0 where
  pub groups : GroupTable
  pub ports : List Node
  pub hubs : List (Node × Hub)
  pub names : List (List ℕ)

-- the hub that a list has for a node
abbrev pub hub_in : List (Node × Hub) → Node → Option Hub
hub_in hubs node = lookup (same_node node) hubs

-- the hub of the node that stands for a node
abbrev pub hub_of : WiringTable → Node → Option Hub
hub_of wiring node = hub_in wiring.hubs (root wiring.groups node)

-- the node of the written cell that is the hub of a node
abbrev pub hub_node_of : WiringTable → Node → Option Node
hub_node_of wiring node = option_map hub_node (hub_of wiring node)

-- whether a bit of the port of the instance is written, of which the node is a bit, where that port has several bits
abbrev pub is_written : WiringTable → Node → Bool
is_written wiring node = option_map_or (λ port. list_any (same_node port) wiring.ports) (pin_port node) false
