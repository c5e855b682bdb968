use Rattle.std.specs.Prelude.{◌≡◌, ℕ, ◌≤◌, ◌⊎◌, ◌↔◌, List, [], ◌∷◌, length, map, slice_get, slice_index_or, Option, Some, None, Bool, Contains}
use Rattle.std.proofs.Common.{Vec, Global}
use Rattle.net_hier.specs.Valid.{IsNode}
use Rattle.flat_numbers.specs.declared.joins.NumberJoin.{NumberJoin}
use Rattle.net_hier.specs.Constants.{ConstantNames}
use Rattle.net_hier.specs.Cells.{IsConstantCell, IsConstantInstance}
use Rattle.net_hier.specs.Design.{IsCell}
use Rattle.net_hier.specs.declared.cells.HCell.{HCell}
use Rattle.net_hier.specs.declared.cells.HInst.{HInst}
use Rattle.net_hier.specs.declared.nodes.Node.TheVariants.{Pin}
use Rattle.net_hier.specs.declared.nodes.Join.{Join}
use Rattle.flat_numbers.specs.Linked.{AreLabels}
use Rattle.flat_numbers.specs.Numbers.{AreFlatJoins, AreLinks, CellOf, NodeNumber, constant_number}
use Rattle.flat_numbers.specs.declared.spots.Spot.{Spot}

-- the new joins are the old ones and those that are told
abbrev pub Extends : List NumberJoin → List NumberJoin → (ℕ → ℕ → Type 0) → Type 0
Extends old new IsNew = (u v : ℕ) → Contains new (record { a = u; b = v }) ↔ (Contains old (record { a = u; b = v }) ⊎ IsNew u v)

-- a link of the cell at the spot has nodes of these numbers
pub record LinksOf (cells : List HCell) (spots : List Spot) (base : ℕ → ℕ) (links : ℕ → List Join) (number u v : ℕ) : Type 0 where
  pub cell : HCell
  pub of_cell : CellOf cells spots number cell
  pub join : Join
  pub is_join : Contains (links of_cell.spot.cell) join
  pub a_number : NodeNumber cells spots base number cell join.a u
  pub b_number : NodeNumber cells spots base number cell join.b v

-- the nodes that the links name are the cell's
abbrev pub AreOfCell : List HCell → HCell → List Join → Type 0
AreOfCell cells cell links = (link : Join) → Contains links link → IsNode cells cell link.a × IsNode cells cell link.b

-- the cell at the spot has the nodes that the links name
pub record HasLinks (cells : List HCell) (spots : List Spot) (number : ℕ) (links : List Join) : Type 0 where
  pub cell : HCell
  pub of_cell : CellOf cells spots number cell
  pub are_nodes : AreOfCell cells cell links

abbrev pub joins_of : Option HCell → List Join
joins_of None = []
joins_of (Some cell) = cell.joins

-- the joins of the cell of this number
abbrev pub joins_in : List HCell → ℕ → List Join
joins_in cells number = joins_of (slice_get cells number)

-- these links, or the cell's own joins where there is none
abbrev pub or_own : List Join → List Join → List Join
or_own [] own = own
or_own (link ∷ links) own = link ∷ links

-- the links of the cell of this number: an empty row stands for the cell's own joins
abbrev pub links_in : List HCell → List (Vec Join Global) → ℕ → List Join
links_in cells rows number = or_own (slice_index_or (map (λ row. row.items) rows) number []) (joins_in cells number)

-- for each cell links that connect what its joins connect
pub record AreCellLinks (cells : List HCell) (links : List (Vec Join Global)) : Type 0 where
  pub len : length links ≡ length cells
  pub are : (number : ℕ) (cell : HCell) → IsCell cells number cell → AreLinks cells cell (links_in cells links number)

-- the table says for each cell whether it is one for a constant, and for which
pub record AreConstants (names : ConstantNames) (cells : List HCell) (constants : List (Option Bool)) : Type 0 where
  pub len : length constants ≡ length cells
  pub are : (number : ℕ) (cell : HCell) (value : Bool) → IsCell cells number cell → (slice_get constants number ≡ Some (Some value)) ↔ IsConstantCell names value cell

-- the cell at a spot has an instance of the cell of this number
pub record InstanceAt (cells : List HCell) (spots : List Spot) (number place below : ℕ) : Type 0 where
  pub cell : HCell
  pub of_cell : CellOf cells spots number cell
  pub instance : HInst
  pub is_there : slice_get cell.instances place ≡ Some instance
  pub is_of : instance.cell ≡ below
  pub below_cell : HCell
  pub is_below : IsCell cells below below_cell

-- the instance is of a constant cell, and these are the numbers of its pin and of the constant
pub record ConstantAt (names : ConstantNames) (cells : List HCell) (spots : List Spot) (base : ℕ → ℕ) (number place u v : ℕ) : Type 0 where
  pub cell : HCell
  pub of_cell : CellOf cells spots number cell
  pub value : Bool
  pub is_constant : IsConstantInstance names cells cell value place
  pub pin_number : NodeNumber cells spots base number cell (Pin place 0 0) u
  pub v_is : v ≡ constant_number value

-- one of the spot's instances is of a constant cell, and these are the numbers of its pin and of the constant
abbrev pub ConstantsOf : ConstantNames → List HCell → List Spot → (ℕ → ℕ) → ℕ → ℕ → ℕ → Type 0
ConstantsOf names cells spots base number u v = (place : ℕ) × ConstantAt names cells spots base number place u v

-- no cell has more instances than the flat tools take
abbrev pub AreFew : List HCell → Type 0
AreFew cells = (number : ℕ) (cell : HCell) → IsCell cells number cell → length cell.instances ≤ 2000000

-- the labels of the numbers of a design: those of the joins that its numbers have
pub record AreJoinLabels (names : ConstantNames) (cells : List HCell) (spots : List Spot) (base : ℕ → ℕ) (links : ℕ → List Join) (count : ℕ) (labels : List ℕ) : Type 0 where
  pub joins : List NumberJoin
  pub are_joins : AreFlatJoins names cells spots base links joins
  pub are_labels : AreLabels count joins labels
