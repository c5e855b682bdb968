-- The hubs that are given to nodes, and the wires that are made for them.
use Rattle.std.specs.Prelude.{◌≡◌, ◌⊎◌, ◌++◌, ℕ, true, false, cond, List, map, length, codes, Option, Some, None, slice_get, Contains}
use Rattle.std.specs.List.{list_any}
use Rattle.nl_base.specs.Case.{same_bytes}
use Rattle.net_bits.specs.Names.{AreUsed, has_name}
use Rattle.net_bits.specs.Neighbours.{same_node}
use Rattle.net_hier.specs.declared.cells.HCell.{HCell}
use Rattle.net_hier.specs.declared.nodes.Node.{Node}
use Rattle.to_verilog_rules.specs.Rules.{is_name}
use Rattle.to_verilog_classes.specs.Groups.{GroupTable, around}
use Rattle.to_verilog_wires.specs.Hubs.{port_hub}
use Rattle.to_verilog_wires.specs.Naming.{wire_attrs}
use Rattle.to_verilog_wires.specs.Wires.{HasOneMore}
use Rattle.to_verilog_wires.specs.Wiring.{hub_in}
use Rattle.to_verilog_wires.specs.declared.hubs.Hub.{Hub}
use Rattle.to_verilog_wires.specs.declared.hubs.Hub.TheVariants as hubs
use Rattle.to_verilog_wires.specs.declared.naming.Wires.{Wires}
use Rattle.vlog_written.specs.OwnNames.{AreDistinct}
use Rattle.vlog_written.specs.Written.{PlainWire, wire_item}

-- a port bit of the class is the hub, and there is no new wire
pub record IsPortHub (cell : HCell) (nodes : List Node) (before after : Wires) (hub : Hub) : Type 0 where
  pub is_hub : port_hub cell nodes ≡ Some hub
  pub same : after ≡ before

-- a new wire is the hub, the next one
pub record IsWireHub (cell : HCell) (nodes : List Node) (before after : Wires) (hub : Hub) : Type 0 where
  pub no_port : port_hub cell nodes ≡ None
  pub is_hub : hub ≡ hubs.Wire (length before.names)
  pub more : HasOneMore cell nodes before after

-- the hub of a class of these nodes
abbrev pub IsHubFor : HCell → List Node → Wires → Wires → Hub → Type 0
IsHubFor cell nodes before after hub = IsPortHub cell nodes before after hub ⊎ IsWireHub cell nodes before after hub

-- a node was given the hub of the class of these nodes, and the others have what they had
pub record AddsHub (cell : HCell) (nodes : List Node) (root : Node) (old new : List (Node × Hub)) (before after : Wires) : Type 0 where
  pub hub : Hub
  pub is_hub : IsHubFor cell nodes before after hub
  pub given : (node : Node) → hub_in new node ≡ cond (same_node root node) (Some hub) (hub_in old node)

-- the wire of this number has the properties of the nets among the nodes, of which no port bit can be the hub
pub record IsWireOf (cell : HCell) (nodes : List Node) (wires : List PlainWire) (number : ℕ) : Type 0 where
  pub no_port : port_hub cell nodes ≡ None
  pub wire : PlainWire
  pub is_there : slice_get wires number ≡ Some wire
  pub attrs : wire.attrs ≡ wire_attrs cell nodes

-- exactly these nodes have hubs: each a port bit of its class, or a wire of its own
pub record AreGiven (cell : HCell) (groups : GroupTable) (roots : List Node) (hub : Node → Option Hub) (wires : List PlainWire) : Type 0 where
  pub only : (root : Node) (a : Hub) → hub root ≡ Some a → Contains roots root
  pub all : (root : Node) → Contains roots root → (a : Hub) × (hub root ≡ Some a)
  pub ports : (root : Node) (port bit : ℕ) → hub root ≡ Some (hubs.Port port bit) → port_hub cell (around groups root) ≡ Some (hubs.Port port bit)
  pub wires_of : (root : Node) (number : ℕ) → hub root ≡ Some (hubs.Wire number) → IsWireOf cell (around groups root) wires number
  pub apart : (root other : Node) (number : ℕ) → hub root ≡ Some (hubs.Wire number) → hub other ≡ Some (hubs.Wire number) → root ≡ other

-- the names of the ports and the instances of a cell
abbrev pub own_names : HCell → List (List ℕ)
own_names cell = map (λ port. port.name) cell.ports ++ map (λ instance. instance.name) cell.instances

-- the wires have names of their own, which no port and no instance has, and which can be written
pub record AreNamed (cell : HCell) (wires : List PlainWire) : Type 0 where
  pub apart : AreDistinct (map (λ wire. wire.name) wires)
  pub new : (wire : PlainWire) → Contains wires wire → ¬ Contains (own_names cell) wire.name
  pub can_be_written : (wire : PlainWire) → Contains wires wire → is_name wire.name ≡ true

-- each wire has the attributes of the nets among some nodes
abbrev pub HaveNetAttrs : HCell → List PlainWire → Type 0
HaveNetAttrs cell wires = (wire : PlainWire) → Contains wires wire → (nodes : List Node) × (wire.attrs ≡ wire_attrs cell nodes)

-- the wires while hubs are given
pub record AreMade (cell : HCell) (made : Wires) (wires : List PlainWire) : Type 0 where
  pub decls : made.decls ≡ map wire_item wires
  pub names : made.names ≡ map (λ wire. wire.name) wires
  pub next : AreUsed made.used (codes "n") made.next
  pub exact : made.used.up_to_case ≡ false
  pub used : (name : List ℕ) → has_name made.used name ≡ list_any (same_bytes name) (own_names cell ++ made.names)
  pub named : AreNamed cell wires
  pub attrs : HaveNetAttrs cell wires

-- the hubs of nodes, and the wires that were made for them
pub record GivesHubs (cell : HCell) (groups : GroupTable) (roots : List Node) (entries : List (Node × Hub)) (made : Wires) : Type 0 where
  pub wires : List PlainWire
  pub are_made : AreMade cell made wires
  pub are_given : AreGiven cell groups roots (hub_in entries) wires
