-- What is found of the connections of a cell.
use Rattle.std.specs.Prelude.{◌≡◌, ◌↔◌, ℕ, Bool, true, false, List, [], ◌∷◌, Option, None, Some, slice_get}
use Rattle.std.specs.Option.{option_and_then, option_map_or}
use Rattle.std.specs.declared.cmp.Ordering.{Ordering}
use Rattle.std.specs.declared.cmp.Ordering.TheVariants.{Less, Equal, Greater}
use Rattle.net_bits.specs.Classes.{ClassTable, class_of, members_of}
use Rattle.net_bits.specs.Neighbours.{IsJoined}
use Rattle.net_hier.specs.Cells.{IsPortBit, width_of}
use Rattle.net_hier.specs.Design.{IsCell}
use Rattle.net_hier.specs.Nodes.{node_cmp}
use Rattle.net_hier.specs.SameCells.{NeedsConstant}
use Rattle.net_hier.specs.declared.cells.HCell.{HCell}
use Rattle.net_hier.specs.declared.nodes.Node.{Node}
use Rattle.net_hier.specs.declared.nodes.Node.TheVariants.{Port}
use Rattle.to_spice_rules.specs.Connections.{AreFirstJoined, AreJoined, HasPortsApart, HoldsBefore, IsPortRefusal, IsUntied}
use Rattle.to_spice_rules.specs.declared.connections.CellConnections.{CellConnections}
use Rattle.to_spice_rules.specs.declared.connections.JoinedBits.{JoinedBits}
use Rattle.to_spice_rules.specs.declared.refusal.SpiceRefusal.{SpiceRefusal}

-- the node, where the order of it and another says that it stands before that
abbrev pub if_less : Ordering → Node → Option Node
if_less Less node = Some node
if_less Equal node = None
if_less Greater node = None

-- the first of some nodes, where it stands before this one
abbrev pub first_if_before : Node → List Node → Option Node
first_if_before node [] = None
first_if_before node (first ∷ others) = if_less (node_cmp first node) first

-- the first node of the class of a node, where it stands before it
abbrev pub first_before : ClassTable → Node → Option Node
first_before classes node = option_and_then (λ class. first_if_before node (members_of classes class)) (class_of classes node)

-- the port bits in joins of the cell are bits of its ports
abbrev pub HasOwnPorts : HCell → Type 0
HasOwnPorts cell = (port bit : ℕ) → IsJoined cell (Port port bit) → IsPortBit cell port bit

-- how many bits the port of this number has
abbrev pub end_of_port : HCell → ℕ → ℕ
end_of_port cell port = option_map_or (λ p. width_of p.range) (slice_get cell.ports port) 0

-- no port bit before the node is connected to an earlier one
abbrev pub NoneBefore : HCell → Node → Type 0
NoneBefore cell node = (first later : Node) → AreJoined cell first later → ¬ (node_cmp later node ≡ Less)

-- the first port bits that are connected, or none before the node
abbrev pub PairFound : HCell → Node → Option JoinedBits → Type 0
PairFound cell end None = NoneBefore cell end
PairFound cell end (Some joined) = AreFirstJoined cell joined.first joined.later

-- the first port bits of the cell that are connected, or none are
abbrev pub JoinedFound : HCell → Option JoinedBits → Type 0
JoinedFound cell None = HasPortsApart cell
JoinedFound cell (Some joined) = AreFirstJoined cell joined.first joined.later

-- the refusal of the first port bits of the cell that are connected, or none are
abbrev pub PortRefusalFound : HCell → Option SpiceRefusal → Type 0
PortRefusalFound cell None = HasPortsApart cell
PortRefusalFound cell (Some refusal) = IsPortRefusal cell refusal

-- the cell connects a constant to a port bit, a pin bit or the other constant
abbrev pub IsTied : List HCell → HCell → Type 0
IsTied cells cell = (value : Bool) × NeedsConstant cells cell value

-- what the cell of this number connects
pub record CellFound (cells : List HCell) (number : ℕ) (found : CellConnections) : Type 0 where
  pub ports : (cell : HCell) → IsCell cells number cell → PortRefusalFound cell found.ports
  pub tied : (cell : HCell) → IsCell cells number cell → (found.is_tied ≡ true) ↔ IsTied cells cell

-- the first of some places, or this one where it is one
abbrev pub earlier_place : Option ℕ → ℕ → Bool → Option ℕ
earlier_place (Some earlier) number is_one = Some earlier
earlier_place None number true = Some number
earlier_place None number false = None

-- the cell of this number is the first that connects a constant
pub record IsFirstTied (cells : List HCell) (number : ℕ) : Type 0 where
  pub cell : HCell
  pub is_cell : IsCell cells number cell
  pub before : HoldsBefore (IsUntied cells) cells number
  pub tied : IsTied cells cell

-- the first cell that connects a constant, or none before this number
abbrev pub TiedFound : List HCell → ℕ → Option ℕ → Type 0
TiedFound cells end None = HoldsBefore (IsUntied cells) cells end
TiedFound cells end (Some number) = IsFirstTied cells number
