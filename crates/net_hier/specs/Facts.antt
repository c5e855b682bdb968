use Rattle.std.specs.Prelude.{◌≡◌, ℕ, ◌<◌, ◌⊎◌, ◌↔◌, ◌==◌, ◌++◌, List, [], ◌∷◌, slice_get, Some, Bool, cond}
use Rattle.nl_base.specs.declared.value.PropValue.{PropValue}
use Rattle.net_hier.specs.Cells.{IsAnyConstantCell, IsConstantInstance, IsLocallyConnected, IsPinBit, IsPortBit}
use Rattle.net_hier.specs.Constants.{ConstantNames}
use Rattle.net_hier.specs.Design.{Design, IsCell}
use Rattle.net_hier.specs.Paths.{Path, CellAt, LeadsTo}
use Rattle.net_hier.specs.declared.cells.HCell.{HCell}
use Rattle.net_hier.specs.declared.cells.HInst.{HInst}
use Rattle.net_hier.specs.declared.cells.HNet.{HNet}
use Rattle.net_hier.specs.declared.cells.HPort.{HPort}
use Rattle.net_hier.specs.declared.cells.HProp.{HProp}
use Rattle.net_hier.specs.declared.nodes.Node.{Node}
use Rattle.net_hier.specs.declared.nodes.Node.TheVariants.{Port, Pin, Net}

-- a property of the list has this name
abbrev pub HasProperty : List HProp → List ℕ → Type 0
HasProperty [] name = ⊥
HasProperty (prop ∷ rest) name = (prop.name ≡ name) ⊎ HasProperty rest name

-- the last property of this name in the list has this value
abbrev pub HasLastValue : List HProp → List ℕ → PropValue → Type 0
HasLastValue [] name value = ⊥
HasLastValue (prop ∷ rest) name value = HasLastValue rest name value ⊎ ((prop.name ≡ name) × (prop.value ≡ value) × (¬ HasProperty rest name))

-- two lists give each name the same last value
abbrev pub SameValues : List HProp → List HProp → Type 0
SameValues props others = (name : List ℕ) (value : PropValue) → HasLastValue props name value ↔ HasLastValue others name value

-- the properties of a cell: the top's are followed by the design's
abbrev pub cell_props : Design → ℕ → HCell → List HProp
cell_props design number cell = cond (number == design.top) (cell.props ++ design.props) cell.props

-- the net of this number is locally connected to the node and has a property of this name
pub record NetGives (cell : HCell) (node : Node) (name : List ℕ) (number : ℕ) (net : HNet) : Type 0 where
  pub is_there : slice_get cell.nets number ≡ Some net
  pub is_connected : IsLocallyConnected cell node (Net number)
  pub has_property : HasProperty net.props name

-- the value of the last net of the node's local class that has a property of this name
pub record HasNetValue (cell : HCell) (node : Node) (name : List ℕ) (value : PropValue) : Type 0 where
  pub number : ℕ
  pub net : HNet
  pub gives : NetGives cell node name number net
  pub is_value : HasLastValue net.props name value
  pub is_last : (later : ℕ) (other : HNet) → number < later → ¬ NetGives cell node name later other

-- the path is that of an instance of a constant cell
pub record IsConstantPath (names : ConstantNames) (design : Design) (path : Path) : Type 0 where
  pub below_top : ¬ (path ≡ [])
  pub cell : HCell
  pub at : CellAt design path cell
  pub is_constant : IsAnyConstantCell names cell

pub data Fact : Type 0 where
  OfCell : (path : Path) (name : List ℕ) (value : PropValue) → Fact
  OfPort : (path : Path) (port name : List ℕ) (value : PropValue) → Fact
  OfInstance : (path : Path) (instance name : List ℕ) (value : PropValue) → Fact
  OfPortBit : (path : Path) (port bit : ℕ) (name : List ℕ) (value : PropValue) → Fact
  OfPinBit : (path : Path) (instance port bit : ℕ) (name : List ℕ) (value : PropValue) → Fact

pub record CellFact (design : Design) (path : Path) (name : List ℕ) (value : PropValue) : Type 0 where
  pub number : ℕ
  pub leads : LeadsTo design.cells design.top path number
  pub cell : HCell
  pub is_cell : IsCell design.cells number cell
  pub is_value : HasLastValue (cell_props design number cell) name value

pub record PortFact (design : Design) (path : Path) (port name : List ℕ) (value : PropValue) : Type 0 where
  pub cell : HCell
  pub at : CellAt design path cell
  pub number : ℕ
  pub the_port : HPort
  pub is_there : slice_get cell.ports number ≡ Some the_port
  pub is_named : the_port.name ≡ port
  pub is_value : HasLastValue the_port.props name value

pub record InstanceFact (names : ConstantNames) (design : Design) (path : Path) (instance name : List ℕ) (value : PropValue) : Type 0 where
  pub cell : HCell
  pub at : CellAt design path cell
  pub number : ℕ
  pub the_instance : HInst
  pub is_there : slice_get cell.instances number ≡ Some the_instance
  pub is_named : the_instance.name ≡ instance
  pub no_constant : (constant : Bool) → ¬ IsConstantInstance names design.cells cell constant number
  pub is_value : HasLastValue the_instance.props name value

pub record PortBitFact (design : Design) (path : Path) (port bit : ℕ) (name : List ℕ) (value : PropValue) : Type 0 where
  pub cell : HCell
  pub at : CellAt design path cell
  pub is_bit : IsPortBit cell port bit
  pub is_value : HasNetValue cell (Port port bit) name value

pub record PinBitFact (names : ConstantNames) (design : Design) (path : Path) (instance port bit : ℕ) (name : List ℕ) (value : PropValue) : Type 0 where
  pub cell : HCell
  pub at : CellAt design path cell
  pub is_bit : IsPinBit design.cells cell instance port bit
  pub no_constant : (constant : Bool) → ¬ IsConstantInstance names design.cells cell constant instance
  pub is_value : HasNetValue cell (Pin instance port bit) name value

-- the path at which the fact stands
abbrev pub path_of : Fact → Path
path_of (OfCell path name value) = path
path_of (OfPort path port name value) = path
path_of (OfInstance path instance name value) = path
path_of (OfPortBit path port bit name value) = path
path_of (OfPinBit path instance port bit name value) = path

abbrev pub Holds : ConstantNames → Design → Fact → Type 0
Holds names design (OfCell path name value) = CellFact design path name value
Holds names design (OfPort path port name value) = PortFact design path port name value
Holds names design (OfInstance path instance name value) = InstanceFact names design path instance name value
Holds names design (OfPortBit path port bit name value) = PortBitFact design path port bit name value
Holds names design (OfPinBit path instance port bit name value) = PinBitFact names design path instance port bit name value

-- a fact of the design: those at the path of an instance of a constant cell, on that instance and on its pins are left out
abbrev pub IsFact : ConstantNames → Design → Fact → Type 0
IsFact names design fact = (¬ IsConstantPath names design (path_of fact)) × Holds names design fact
