-- The classes of locally connected nodes of a cell.
use Rattle.std.specs.Prelude.{◌≡◌, ℕ, ◌+◌, ◌*◌, ◌<◌, ◌≤◌, ◌==◌, ◌↔◌, List, [], Bool, false, Option, Some, None, length, filter, position, slice_get, slice_index_or}
use Rattle.std.specs.Option.{option_and_then}
use Rattle.std.specs.List.Sorted.{IsStrictlySortedBy}
use Rattle.std.specs.declared.cmp.Ordering.TheVariants.{Less}
use Rattle.net_hier.specs.Cells.{IsLocallyConnected}
use Rattle.net_hier.specs.Design.{IsCell}
use Rattle.net_hier.specs.Nodes.{node_cmp}
use Rattle.net_hier.specs.declared.cells.HCell.{HCell}
use Rattle.net_hier.specs.declared.nodes.Node.{Node}
use Rattle.net_bits.specs.Neighbours.{AreJoinedNodes, IsJoined, joined_count, same_node}
use Rattle.net_bits.specs.Parts.{AreStarts, parts}

-- nodes in order, for each of them the number of its class, and how many classes there are
pub record ClassTable : Type 0 where
  pub nodes : List Node
  pub numbers : List ℕ
  pub count : ℕ

-- the class of a node: the number at its place, none where it has no place
abbrev pub class_of : ClassTable → Node → Option ℕ
class_of classes node = option_and_then (slice_get classes.numbers) (position (same_node node) classes.nodes)

-- whether this is the number
abbrev pub is_number : ℕ → Option ℕ → Bool
is_number number None = false
is_number number (Some other) = other == number

-- the nodes of a class, in order
abbrev pub members_of : ClassTable → ℕ → List Node
members_of classes class = filter (λ node. is_number class (class_of classes node)) classes.nodes

-- the classes of the cell: exactly its joined nodes have one, two of them the same exactly where they are locally connected, and the classes are numbered from 0 in the order of their least nodes
pub record AreClasses (cell : HCell) (classes : ClassTable) : Type 0 where
  pub nodes : AreJoinedNodes cell classes.nodes
  pub joined : (node : Node) → IsJoined cell node ↔ ((class : ℕ) × (class_of classes node ≡ Some class))
  pub below : (node : Node) (class : ℕ) → class_of classes node ≡ Some class → class < classes.count
  pub same : (x y : Node) (j k : ℕ) → class_of classes x ≡ Some j → class_of classes y ≡ Some k → (j ≡ k) ↔ IsLocallyConnected cell x y
  pub used : (class : ℕ) → class < classes.count → (node : Node) × (class_of classes node ≡ Some class)
  pub ordered : (node : Node) (class lesser : ℕ) → class_of classes node ≡ Some class → lesser < class → (other : Node) × (node_cmp other node ≡ Less) × (class_of classes other ≡ Some lesser)

-- the classes are those of the cell of this number
abbrev pub AreClassesAt : List HCell → ℕ → ClassTable → Type 0
AreClassesAt cells number classes = (cell : HCell) → IsCell cells number cell → AreClasses cell classes

-- for each class its nodes, in order
pub record AreMembers (classes : ClassTable) (lists : List (List Node)) : Type 0 where
  pub len : length lists ≡ classes.count
  pub members : (class : ℕ) → class < classes.count → slice_index_or lists class [] ≡ members_of classes class

-- what a table keeps of its classes: its nodes are in order, and those of each class stand behind one another
pub record HasMembers (classes : ClassTable) (starts : List ℕ) (members : List Node) : Type 0 where
  pub in_order : IsStrictlySortedBy node_cmp classes.nodes
  pub few : length starts ≤ 4294967296
  pub are_starts : AreStarts starts (length members)
  pub are_members : AreMembers classes (parts starts members)

-- the greatest number of steps that the classes of a cell take: one for each joined node, and one for each end of each join
abbrev pub step_bound : HCell → ℕ
step_bound cell = joined_count cell + 2 * length cell.joins
