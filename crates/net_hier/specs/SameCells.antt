use Rattle.std.specs.Prelude.{◌≡◌, ℕ, ◌+◌, ◌<◌, ◌≤◌, ◌≢◌, ◌↔◌, List, length, slice_get, Bool, true, false, Option, Some, None, IsSome, Contains}
use Rattle.net_hier.specs.Cells.{IsAnyConstantCell, IsBitOrConstant, IsConstantCell, IsConstantInstance, IsLocallyConnected, IsPinBit, IsPortBit, constant_node}
use Rattle.net_hier.specs.Constants.{ConstantNames}
use Rattle.net_hier.specs.Design.{Design, IsCell}
use Rattle.net_hier.specs.Facts.{SameValues, HasNetValue, cell_props}
use Rattle.net_hier.specs.SameDesign.{SamePorts}
use Rattle.nl_base.specs.declared.value.PropValue.{PropValue}
use Rattle.net_hier.specs.declared.cells.HCell.{HCell}
use Rattle.net_hier.specs.declared.cells.HInst.{HInst}
use Rattle.net_hier.specs.declared.cells.HPort.{HPort}
use Rattle.net_hier.specs.declared.nodes.Join.{Join}
use Rattle.net_hier.specs.declared.nodes.Node.{Node}
use Rattle.net_hier.specs.declared.nodes.Node.TheVariants.{Port, Pin, Net, Zero, One}

-- None is a target that writes constants as literals; Some n is one whose first n cells are constant cells
abbrev pub first_cells : Option ℕ → ℕ
first_cells None = 0
first_cells (Some n) = n

-- the partner's number: after the first cells the other design has one cell for each number in the order
abbrev pub IsPartner : Design → Option ℕ → ℕ → ℕ → Type 0
IsPartner design n number partner = (place : ℕ) × (slice_get design.order place ≡ Some number) × (partner ≡ first_cells n + place)

-- the constant is locally connected to a port bit, a pin bit or the other constant
pub record NeedsConstant (cells : List HCell) (cell : HCell) (value : Bool) : Type 0 where
  pub node : Node
  pub is_bit : IsBitOrConstant cells cell node
  pub is_other : node ≢ constant_node value
  pub is_connected : IsLocallyConnected cell (constant_node value) node

abbrev pub stand_or : Option ℕ → Node → Node
stand_or None node = node
stand_or (Some instance) node = Pin instance 0 0

-- the node that stands in the partner for this one: for a constant the pin of its added instance, where there is one
abbrev pub stand_in : (Bool → Option ℕ) → Node → Node
stand_in added (Port port bit) = Port port bit
stand_in added (Pin instance port bit) = Pin instance port bit
stand_in added (Net net) = Net net
stand_in added Zero = stand_or (added false) Zero
stand_in added One = stand_or (added true) One

-- which constants the partner has an added instance for
abbrev pub AddedAsNeeded : Option ℕ → List HCell → HCell → (Bool → Option ℕ) → Type 0
AddedAsNeeded None cells cell added = (value : Bool) → added value ≡ None
AddedAsNeeded (Some n) cells cell added = (value : Bool) → IsSome (added value) ↔ NeedsConstant cells cell value

-- an instance and the one of the same place in the partner
pub record SameInstance (design : Design) (n : Option ℕ) (instance counterpart : HInst) : Type 0 where
  pub same_name : instance.name ≡ counterpart.name
  pub same_cell : IsPartner design n instance.cell counterpart.cell
  pub same_props : SameValues instance.props counterpart.props

-- a cell and its partner agree
pub record SameCell (names : ConstantNames) (design other : Design) (n : Option ℕ) (number onumber : ℕ) (cell partner : HCell) : Type 0 where
  pub same_name : cell.name ≡ partner.name
  pub same_ports : SamePorts cell partner
  pub same_props : SameValues (cell_props design number cell) (cell_props other onumber partner)
  pub same_port_props : (place : ℕ) (port counterpart : HPort) → slice_get cell.ports place ≡ Some port → slice_get partner.ports place ≡ Some counterpart → SameValues port.props counterpart.props
  pub same_instances : (place : ℕ) (instance : HInst) → slice_get cell.instances place ≡ Some instance → (counterpart : HInst) × (slice_get partner.instances place ≡ Some counterpart) × SameInstance design n instance counterpart
  -- the number of the partner's added instance for each constant
  pub added : Bool → Option ℕ
  pub as_needed : AddedAsNeeded n design.cells cell added
  pub added_after : (value : Bool) (place : ℕ) → added value ≡ Some place → (length cell.instances ≤ place) × IsConstantInstance names other.cells partner value place
  pub added_alone : (place : ℕ) → length cell.instances ≤ place → place < length partner.instances → (value : Bool) × (added value ≡ Some place)
  pub zero_first : (zero_place one_place : ℕ) → added false ≡ Some zero_place → added true ≡ Some one_place → zero_place < one_place
  pub same_connection : (x y : Node) → IsBitOrConstant design.cells cell x → IsBitOrConstant design.cells cell y → IsLocallyConnected cell x y ↔ IsLocallyConnected partner (stand_in added x) (stand_in added y)
  pub same_port_nets : (port bit : ℕ) → IsPortBit cell port bit → (name : List ℕ) (value : PropValue) → HasNetValue cell (Port port bit) name value ↔ HasNetValue partner (Port port bit) name value
  pub same_pin_nets : (instance port bit : ℕ) → IsPinBit design.cells cell instance port bit → (name : List ℕ) (value : PropValue) → HasNetValue cell (Pin instance port bit) name value ↔ HasNetValue partner (Pin instance port bit) name value

-- the first cells are constant cells, at most one of each kind, and no join names a constant
pub record HasConstantCells (names : ConstantNames) (other : Design) (n : ℕ) : Type 0 where
  pub first : (number : ℕ) (cell : HCell) → number < n → IsCell other.cells number cell → IsAnyConstantCell names cell
  pub once : (value : Bool) (number onumber : ℕ) (cell ocell : HCell) → number < n → onumber < n → IsCell other.cells number cell → IsCell other.cells onumber ocell →
      IsConstantCell names value cell → IsConstantCell names value ocell → number ≡ onumber
  pub no_join : (number : ℕ) (cell : HCell) (join : Join) (value : Bool) → IsCell other.cells number cell → Contains cell.joins join → (join.a ≢ constant_node value) × (join.b ≢ constant_node value)

abbrev pub HasFirstCells : ConstantNames → Design → Option ℕ → Type 0
HasFirstCells names other None = Unit {0}
HasFirstCells names other (Some n) = (n ≤ 2) × HasConstantCells names other n

-- the two designs are the same, cell by cell
pub record SameCells (names : ConstantNames) (design other : Design) (n : Option ℕ) : Type 0 where
  pub first : HasFirstCells names other n
  pub no_more : length other.cells ≡ first_cells n + length design.order
  pub same_top : IsPartner design n design.top other.top
  pub same_cells : (number onumber : ℕ) (cell : HCell) → IsPartner design n number onumber → IsCell design.cells number cell →
      (partner : HCell) × IsCell other.cells onumber partner × SameCell names design other n number onumber cell partner
