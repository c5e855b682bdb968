use Rattle.std.specs.Prelude.{◌≡◌, ℕ, suc, ◌<◌, ◌↔◌, ◌++◌, ◌==◌, List, [], ◌∷◌, ◌&&◌, Bool, is_none, length, map, slice_get, slice_index, slice_index_or, Option, Some, None, true, false, not, Contains}
use Rattle.std.specs.List.{filter, flat_map, range_with_len}
use Rattle.net_hier.specs.Constants.{ConstantNames}
use Rattle.net_hier.specs.Cells.{IsAnyConstantCell, IsLeaf, width_of}
use Rattle.net_hier.specs.Design.{Design}
use Rattle.net_hier.specs.Flat.{FlatNode, Constant, At, IsConnected}
use Rattle.net_hier.specs.Paths.{Path}
use Rattle.net_hier.specs.declared.cells.HCell.{HCell}
use Rattle.net_hier.specs.declared.cells.HPort.{HPort}
use Rattle.net_hier.specs.declared.nodes.Node.TheVariants.{Port as PortNode}
use Rattle.flat_classes.specs.Groups.{AreGroupNumbers}
use Rattle.flat_numbers.specs.Numbers.{CellOf}
use Rattle.flat_numbers.specs.Spots.{AreSpots, IsSpotOf}
use Rattle.flat_classes.specs.declared.flat.Terminal.{Terminal}
use Rattle.flat_classes.specs.declared.flat.Terminal.TheVariants.{Port, Pin, Zero, One}
use Rattle.flat_numbers.specs.declared.spots.Spot.{Spot}

-- what the flat classes say: the spots, the spots of the leaves, the terminals, for each terminal the number of its group, and how many groups there are
pub record FlatValue : Type 0 where
  pub spots : List Spot
  pub leaves : List ℕ
  pub terminals : List Terminal
  pub groups : List ℕ
  pub count : ℕ

-- the spot of this number is that of a leaf that is no constant cell
pub record IsLeafSpot (names : ConstantNames) (cells : List HCell) (spots : List Spot) (number : ℕ) : Type 0 where
  pub cell : HCell
  pub of_cell : CellOf cells spots number cell
  pub is_leaf : IsLeaf cell
  pub no_constant : ¬ IsAnyConstantCell names cell

-- the spots of the leaves that are no constant cells, in order
pub record AreLeaves (names : ConstantNames) (cells : List HCell) (spots : List Spot) (leaves : List ℕ) : Type 0 where
  pub are : (number : ℕ) → Contains leaves number ↔ IsLeafSpot names cells spots number
  pub in_order : (i j a b : ℕ) → i < j → slice_get leaves i ≡ Some a → slice_get leaves j ≡ Some b → a < b

-- whether the marks have the spot's cell as a leaf that is no constant cell
abbrev pub is_leaf_spot : List Bool → List (Option Bool) → Option Spot → Bool
is_leaf_spot marks constants None = false
is_leaf_spot marks constants (Some spot) = slice_index_or marks spot.cell false && is_none (slice_index_or constants spot.cell None)

-- the spots of which this holds, in order
abbrev pub leaf_spots : List Spot → List Bool → List (Option Bool) → List ℕ
leaf_spots spots marks constants = filter (λ number. is_leaf_spot marks constants (slice_get spots number)) (range_with_len 0 (length spots))

-- the bits of the ports, in the order of ports and positions; the first port has the number `port`
abbrev pub bits_of_ports : {A : Type 0} → (ℕ → ℕ → A) → ℕ → List HPort → List A
bits_of_ports make port [] = []
bits_of_ports make port (first ∷ ports) = map (make port) (range_with_len 0 (width_of first.range)) ++ bits_of_ports make (suc port) ports

abbrev pub ports_of : Option HCell → List HPort
ports_of None = []
ports_of (Some cell) = cell.ports

abbrev pub cell_of : List HCell → Option Spot → Option HCell
cell_of cells None = None
cell_of cells (Some spot) = slice_get cells spot.cell

abbrev pub ports_at : List HCell → List Spot → ℕ → List HPort
ports_at cells spots number = ports_of (cell_of cells (slice_get spots number))

-- the top's port bits, then the pins of the leaves other than the top, then the constants
abbrev pub terminals_of : List HCell → List Spot → List ℕ → List Terminal
terminals_of cells spots leaves =
    (bits_of_ports (λ port bit. Port port bit) 0 (ports_at cells spots 0)
    ++ flat_map (λ leaf. bits_of_ports (λ port bit. Pin leaf port bit) 0 (ports_at cells spots leaf)) (filter (λ leaf. not (leaf == 0)) leaves))
    ++ Zero ∷ One ∷ []

-- the flat node of a terminal
pub data IsNodeOf (cells : List HCell) (spots : List Spot) : Terminal → FlatNode → Type 0 where
  of_port : {port bit : ℕ} → IsNodeOf cells spots (Port port bit) (At [] (PortNode port bit))
  of_pin : {spot port bit : ℕ} {path : Path} → IsSpotOf cells spots path spot → IsNodeOf cells spots (Pin spot port bit) (At path (PortNode port bit))
  of_zero : IsNodeOf cells spots Zero (Constant false)
  of_one : IsNodeOf cells spots One (Constant true)

-- two places have equal numbers exactly where their terminals are connected
abbrev pub AreGroups : ConstantNames → Design → List Spot → List Terminal → (ℕ → ℕ) → Type 0
AreGroups names design spots terminals group = (i j : ℕ) (s t : Terminal) (x y : FlatNode) → slice_get terminals i ≡ Some s → slice_get terminals j ≡ Some t →
    IsNodeOf design.cells spots s x → IsNodeOf design.cells spots t y → (group i ≡ group j) ↔ IsConnected names design x y

-- the flat classes of a design; the groups have the numbers from 0 on in the order of their first terminals
pub record AreFlatClasses (names : ConstantNames) (design : Design) (flat : FlatValue) : Type 0 where
  pub are_spots : AreSpots design flat.spots
  pub are_leaves : AreLeaves names design.cells flat.spots flat.leaves
  pub are_terminals : flat.terminals ≡ terminals_of design.cells flat.spots flat.leaves
  pub are_groups : AreGroups names design flat.spots flat.terminals (slice_index flat.groups)
  pub are_numbers : AreGroupNumbers flat.groups flat.count (length flat.terminals)
