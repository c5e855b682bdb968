use Rattle.std.specs.Prelude.{◌≡◌, ℕ, zero, suc, ◌+◌, ◌<◌, ◌⊎◌, ◌↔◌, List, [], ◌∷◌, length, slice_get, Some, Contains, Bool, true, false}
use Rattle.flat_numbers.specs.declared.joins.NumberJoin.{NumberJoin}
use Rattle.net_hier.specs.Constants.{ConstantNames}
use Rattle.net_hier.specs.Cells.{IsConstantInstance, IsLocallyConnected, IsPinBit, IsPortBit, width_of}
use Rattle.net_hier.specs.Units.{port_bits}
use Rattle.net_hier.specs.Design.{IsCell}
use Rattle.net_hier.specs.Flat.{FlatNode, taken_at}
use Rattle.net_hier.specs.Paths.{Path}
use Rattle.net_hier.specs.Valid.{IsNode}
use Rattle.net_graph.specs.Walks.{IsLinked}
use Rattle.net_hier.specs.declared.cells.HCell.{HCell}
use Rattle.net_hier.specs.declared.cells.HPort.{HPort}
use Rattle.net_hier.specs.declared.nodes.Join.{Join}
use Rattle.net_hier.specs.declared.nodes.Node.{Node}
use Rattle.net_hier.specs.declared.nodes.Node.TheVariants.{Port, Pin, Net, Zero, One}
use Rattle.flat_numbers.specs.Spots.{IsSpotOf}
use Rattle.flat_numbers.specs.declared.spots.Spot.{Spot}

-- how many bits the ports before this one have
abbrev pub bits_before : List HPort → ℕ → ℕ
bits_before [] port = 0
bits_before (first ∷ ports) zero = 0
bits_before (first ∷ ports) (suc port) = width_of first.range + bits_before ports port

-- a spot has a number for each port bit of its cell and, after these, for each net
abbrev pub numbers_of : HCell → ℕ
numbers_of cell = port_bits cell + length cell.nets

-- the spots' first numbers: they come after those of the two constants, and leave room for each spot's own
pub record AreBases (cells : List HCell) (spots : List Spot) (base : ℕ → ℕ) (count : ℕ) : Type 0 where
  pub first : base 0 ≡ 2
  pub next : (number : ℕ) (spot : Spot) (cell : HCell) → slice_get spots number ≡ Some spot → IsCell cells spot.cell cell → base (suc number) ≡ base number + numbers_of cell
  pub last : base (length spots) ≡ count

-- the spot of an instance of the cell at another spot
pub record IsBelow (spots : List Spot) (outer instance inner : ℕ) : Type 0 where
  pub spot : Spot
  pub is_spot : slice_get spots inner ≡ Some spot
  pub no_top : 0 < inner
  pub of_parent : spot.parent ≡ outer
  pub of_instance : spot.instance ≡ instance

abbrev pub constant_number : Bool → ℕ
constant_number false = 0
constant_number true = 1

-- the place of a port bit or a net among the numbers of its spot
pub data IsPlace (cell : HCell) : Node → ℕ → Type 0 where
  port_place : {port bit : ℕ} → IsPortBit cell port bit → IsPlace cell (Port port bit) (bits_before cell.ports port + bit)
  net_place : {net : ℕ} → net < length cell.nets → IsPlace cell (Net net) (port_bits cell + net)

-- the number of a node of the cell at a spot: a pin bit has that of the port bit one level down
pub data NodeNumber (cells : List HCell) (spots : List Spot) (base : ℕ → ℕ) (number : ℕ) (cell : HCell) : Node → ℕ → Type 0 where
  of_zero : NodeNumber cells spots base number cell Zero 0
  of_one : NodeNumber cells spots base number cell One 1
  of_own : {node : Node} {place : ℕ} → IsPlace cell node place → NodeNumber cells spots base number cell node (base number + place)
  of_pin : {instance port bit inner place : ℕ} → (pin : IsPinBit cells cell instance port bit) → IsBelow spots number instance inner → IsPlace pin.below (Port port bit) place →
      NodeNumber cells spots base number cell (Pin instance port bit) (base inner + place)

-- the cell at the spot of this number
pub record CellOf (cells : List HCell) (spots : List Spot) (number : ℕ) (cell : HCell) : Type 0 where
  pub spot : Spot
  pub is_spot : slice_get spots number ≡ Some spot
  pub is_cell : IsCell cells spot.cell cell

-- the number of a flat node
pub record IsNumber (cells : List HCell) (spots : List Spot) (base : ℕ → ℕ) (x : FlatNode) (u : ℕ) : Type 0 where
  pub path : Path
  pub number : ℕ
  pub at : IsSpotOf cells spots path number
  pub cell : HCell
  pub of_cell : CellOf cells spots number cell
  pub node : Node
  pub x_is : x ≡ taken_at path node
  pub node_number : NodeNumber cells spots base number cell node u

-- one of the links has the two nodes, in either order
abbrev pub HasLink : List Join → Node → Node → Type 0
HasLink links x y = Contains links (record { a = x; b = y }) ⊎ Contains links (record { a = y; b = x })

-- links between nodes of the cell that connect what its joins connect
pub record AreLinks (cells : List HCell) (cell : HCell) (links : List Join) : Type 0 where
  pub in_range : (x y : Node) → HasLink links x y → IsNode cells cell x × IsNode cells cell y
  pub same : (x y : Node) → IsLocallyConnected cell x y ↔ IsLinked (HasLink links) x y

-- a join of two numbers: from a link of a spot's cell, or from a pin of an instance of a constant cell
pub data FlatJoin (names : ConstantNames) (cells : List HCell) (spots : List Spot) (base : ℕ → ℕ) (links : ℕ → List Join) : ℕ → ℕ → Type 0 where
  by_link : {number : ℕ} {spot : Spot} {cell : HCell} {x y : Node} {u v : ℕ} → slice_get spots number ≡ Some spot → IsCell cells spot.cell cell → Contains (links spot.cell) (record { a = x; b = y }) →
      NodeNumber cells spots base number cell x u → NodeNumber cells spots base number cell y v → FlatJoin names cells spots base links u v
  by_constant : {number : ℕ} {cell : HCell} {instance : ℕ} {value : Bool} {u : ℕ} → CellOf cells spots number cell → IsConstantInstance names cells cell value instance →
      NodeNumber cells spots base number cell (Pin instance 0 0) u → FlatJoin names cells spots base links u (constant_number value)

-- the joins of the numbers of a design
abbrev pub AreFlatJoins : ConstantNames → List HCell → List Spot → (ℕ → ℕ) → (ℕ → List Join) → List NumberJoin → Type 0
AreFlatJoins names cells spots base links joins = (u v : ℕ) → Contains joins (record { a = u; b = v }) ↔ FlatJoin names cells spots base links u v
