-- The joined nodes of a cell and their neighbours.
use Rattle.std.specs.Prelude.{◌≡◌, ℕ, ◌<◌, ◌^◌, ◌↔◌, ◌++◌, List, [], ◌∷◌, Bool, Some, length, map, slice_get, slice_index_or, sum_by, Contains, if◌then◌else◌}
use Rattle.std.specs.List.{flat_map}
use Rattle.std.specs.List.Sorted.{IsStrictlySortedBy}
use Rattle.std.specs.Ordering.{eq_by_cmp}
use Rattle.std.specs.Set.{distinct_count}
use Rattle.net_hier.specs.Nodes.{node_cmp}
use Rattle.net_hier.specs.declared.cells.HCell.{HCell}
use Rattle.net_hier.specs.declared.nodes.Join.{Join}
use Rattle.net_hier.specs.declared.nodes.Node.{Node}

-- whether two nodes are the same
abbrev pub same_node : Node → Node → Bool
same_node = eq_by_cmp node_cmp

-- both ends of each join, in the order of the joins
abbrev pub ends : List Join → List Node
ends joins = flat_map (λ join. join.a ∷ (join.b ∷ [])) joins

-- the node is in a join of the cell
abbrev pub IsJoined : HCell → Node → Type 0
IsJoined cell node = Contains (ends cell.joins) node

-- how many nodes are in joins of the cell
abbrev pub joined_count : HCell → ℕ
joined_count cell = distinct_count same_node (ends cell.joins)

-- these are the nodes in joins of the cell, each once, in the order of nodes
pub record AreJoinedNodes (cell : HCell) (nodes : List Node) : Type 0 where
  pub in_order : IsStrictlySortedBy node_cmp nodes
  pub joined : (node : Node) → Contains nodes node ↔ IsJoined cell node

-- what is at the other end of a join where the node is at one, twice where the join has the node at both ends
abbrev pub other_ends_of : Node → Join → List Node
other_ends_of node join = (if same_node join.a node then join.b ∷ [] else []) ++ (if same_node join.b node then join.a ∷ [] else [])

-- the nodes at the other ends of a node's joins, in the order of the joins
abbrev pub other_ends : Node → List Join → List Node
other_ends node joins = flat_map (other_ends_of node) joins

-- nodes in order, and for each of them numbers of nodes
pub record Neighbours : Type 0 where
  pub nodes : List Node
  pub lists : List (List ℕ)

-- each list has the numbers of the nodes at the other ends of its node's joins, in the order of the joins
pub record AreOtherEnds (nodes : List Node) (joins : List Join) (lists : List (List ℕ)) : Type 0 where
  pub len : length lists ≡ length nodes
  pub ends : (number : ℕ) (node : Node) → slice_get nodes number ≡ Some node → map (slice_get nodes) (slice_index_or lists number []) ≡ map Some (other_ends node joins)

-- the joined nodes of the cell, and their neighbours
pub record AreNeighbours (cell : HCell) (neighbours : Neighbours) : Type 0 where
  pub nodes : AreJoinedNodes cell neighbours.nodes
  pub lists : AreOtherEnds neighbours.nodes cell.joins neighbours.lists

-- each node has its list, and all counts are below 2^32
pub record AreFew (neighbours : Neighbours) : Type 0 where
  pub len : length neighbours.lists ≡ length neighbours.nodes
  pub few : length neighbours.nodes < 2 ^ 32
  pub short : sum_by length neighbours.lists < 2 ^ 32
