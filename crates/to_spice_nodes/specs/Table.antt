-- How the nodes so far are kept.
use Rattle.std.specs.Prelude.{◌≡◌, ◌⊎◌, ◌<◌, ◌++◌, ℕ, true, cond, List, [], ◌∷◌, get_or, length, slice_get, codes, Option, None, Some, Contains}
use Rattle.std.specs.Map.{lookup}
use Rattle.std.specs.Option.{option_and_then, option_map, option_map_or}
use Rattle.net_bits.specs.Classes.{ClassTable, class_of, members_of}
use Rattle.net_bits.specs.Names.{AreUsed, NameSet, has_name, with_name}
use Rattle.net_bits.specs.Neighbours.{IsJoined, same_node}
use Rattle.net_hier.specs.declared.cells.HCell.{HCell}
use Rattle.net_hier.specs.declared.nodes.Node.{Node}
use Rattle.net_hier.specs.declared.nodes.Node.TheVariants.{Port, Pin, Net}
use Rattle.net_live.specs.Live.{first_net}
use Rattle.to_spice_rules.specs.Found.{HasOwnPorts}
use Rattle.to_spice_rules.specs.PortWords.{port_words}
use Rattle.to_spice_rules.specs.Sets.{with_names}
use Rattle.to_spice_nodes.specs.Naming.{Given, IsNewName, if_free, used_names}
use Rattle.to_spice_nodes.specs.Nodes.{AreNodes, IsNode, paired}

-- the nodes of classes, each by the node that stands for the class, the names that are used, and the number that is tried next
pub record NodeTable : Type 0 where
  pub names : List (Node × List ℕ)
  pub used : NameSet
  pub next : ℕ

-- the name that a list has for a node
abbrev pub name_in : List (Node × List ℕ) → Node → Option (List ℕ)
name_in names node = lookup (same_node node) names

-- the nodes of the class of a node
abbrev pub around : ClassTable → Node → List Node
around classes node = option_map_or (members_of classes) (class_of classes node) []

-- the node that stands for a node: the first of its class, or itself
abbrev pub root : ClassTable → Node → Node
root classes node = get_or (around classes node) 0 node

-- the name of the first net among the nodes
abbrev pub net_name : HCell → List Node → Option (List ℕ)
net_name cell nodes = option_map (λ net. net.name) (option_and_then (slice_get cell.nets) (first_net nodes))

-- the port bits and nets in joins of the cell are its own
pub record HasOwnNodes (cell : HCell) : Type 0 where
  pub ports : HasOwnPorts cell
  pub nets : (number : ℕ) → IsJoined cell (Net number) → number < length cell.nets

-- the node is a port bit
abbrev pub IsPortNode : Node → Type 0
IsPortNode node = (port : ℕ) × (bit : ℕ) × (node ≡ Port port bit)

-- the node is a pin
abbrev pub IsPinNode : Node → Type 0
IsPinNode node = (instance : ℕ) × (port : ℕ) × (bit : ℕ) × (node ≡ Pin instance port bit)

-- the table has the nodes that pins were given
pub record HasGiven (cell : HCell) (classes : ClassTable) (given : Given) (table : NodeTable) : Type 0 where
  pub kept : (pin : Node) (name : List ℕ) → Contains given (pin, name) → IsPortNode (root classes pin) ⊎ (name_in table.names (root classes pin) ≡ Some name)
  pub found : (node : Node) (name : List ℕ) → name_in table.names node ≡ Some name → (pin : Node) × Contains given (pin, name) × (root classes pin ≡ node)
  pub folded : table.used.up_to_case ≡ true
  pub used : (name : List ℕ) → has_name table.used name ≡ has_name (used_names cell given) name
  pub next : AreUsed table.used (codes "n") table.next

-- no nodes of a cell
pub record HasNoNodes (cell : HCell) (table : NodeTable) : Type 0 where
  pub names : table.names ≡ []
  pub used : table.used ≡ with_names (record { up_to_case = true; names = [] }) (port_words cell)
  pub next : table.next ≡ 0

-- the table is the same but for the number that is tried next
pub record IsSameBut (old new : NodeTable) : Type 0 where
  pub names : new.names ≡ old.names
  pub used : new.used ≡ old.used

-- the class of these nodes, for which this node stands, had no name, and has a new one
pub record AddsName (cell : HCell) (nodes : List Node) (node : Node) (old new : NodeTable) (name : List ℕ) : Type 0 where
  pub was_new : name_in old.names node ≡ None
  pub is_new : IsNewName old.used (if_free old.used (net_name cell nodes)) name
  pub names : (other : Node) → name_in new.names other ≡ cond (same_node node other) (Some name) (name_in old.names other)
  pub used : new.used ≡ with_name old.used name
  pub next : AreUsed new.used (codes "n") new.next

-- the name of the class: it had it, or it is new
abbrev pub GivesName : HCell → List Node → Node → NodeTable → NodeTable → List ℕ → Type 0
GivesName cell nodes node old new name = ((name_in old.names node ≡ Some name) × (new ≡ old)) ⊎ AddsName cell nodes node old new name

-- the pin has its node, and the table has it
pub record GivesNode (cell : HCell) (classes : ClassTable) (pin : Node) (old new : NodeTable) (name : List ℕ) : Type 0 where
  pub is_node : (given : Given) → HasGiven cell classes given old → IsNode cell given pin name
  pub has_given : (given : Given) → HasGiven cell classes given old → HasGiven cell classes (given ++ (pin, name) ∷ []) new

-- the pins have their nodes, and the table has them
pub record GivesNodes (cell : HCell) (classes : ClassTable) (pins : List Node) (old new : NodeTable) (names : List (List ℕ)) : Type 0 where
  pub are_nodes : (given : Given) → HasGiven cell classes given old → AreNodes cell given pins names
  pub has_given : (given : Given) → HasGiven cell classes given old → HasGiven cell classes (given ++ paired pins names) new
