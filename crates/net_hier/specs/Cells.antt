use Rattle.std.specs.Prelude.{◌≡◌, ℕ, ◌<◌, ◌⊎◌, List, [], ◌∷◌, length, slice_get, Contains, Bool, true, false, Option, Some, None}
use Rattle.nl_base.specs.declared.value.Dir.TheVariants.{Output}
use Rattle.nl_base.specs.Ranges.{Bounds, range_bits}
use Rattle.net_hier.specs.Constants.{ConstantNames, name_of_constant}
use Rattle.net_hier.specs.Design.{IsCell}
use Rattle.net_graph.specs.Walks.{IsLinked}
use Rattle.net_hier.specs.declared.cells.HCell.{HCell}
use Rattle.net_hier.specs.declared.cells.HInst.{HInst}
use Rattle.net_hier.specs.declared.cells.HPort.{HPort}
use Rattle.net_hier.specs.declared.nodes.Join.{Join}
use Rattle.net_hier.specs.declared.nodes.Node.{Node}
use Rattle.net_hier.specs.declared.nodes.Node.TheVariants.{Port, Pin, Net, Zero, One}

-- one of the cell's joins has the two nodes, in either order
pub record HasLocalStep (cell : HCell) (x y : Node) : Type 0 where
  pub join : Join
  pub is_join : Contains cell.joins join
  pub has_both : ((join.a ≡ x) × (join.b ≡ y)) ⊎ ((join.a ≡ y) × (join.b ≡ x))

-- a list of nodes leads from one to the other by local steps
abbrev pub IsLocallyConnected : HCell → Node → Node → Type 0
IsLocallyConnected cell = IsLinked (HasLocalStep cell)

-- how many bits a port has
abbrev pub width_of : Option Bounds → ℕ
width_of None = 1
width_of (Some range) = range_bits range

-- the bit of a port of the cell, by the port's number and the bit's position from the left
pub record IsPortBit (cell : HCell) (port bit : ℕ) : Type 0 where
  pub the_port : HPort
  pub is_there : slice_get cell.ports port ≡ Some the_port
  pub within : bit < width_of the_port.range

-- the bit of a port of an instance's cell
pub record IsPinBit (cells : List HCell) (cell : HCell) (instance port bit : ℕ) : Type 0 where
  pub the_instance : HInst
  pub is_there : slice_get cell.instances instance ≡ Some the_instance
  pub below : HCell
  pub is_below : IsCell cells the_instance.cell below
  pub is_bit : IsPortBit below port bit

-- the two constants: true is the one
abbrev pub constant_node : Bool → Node
constant_node false = Zero
constant_node true = One

abbrev pub IsPortBitOrConstant : HCell → Node → Type 0
IsPortBitOrConstant cell (Port port bit) = IsPortBit cell port bit
IsPortBitOrConstant cell (Pin instance port bit) = ⊥
IsPortBitOrConstant cell (Net net) = ⊥
IsPortBitOrConstant cell Zero = Unit {0}
IsPortBitOrConstant cell One = Unit {0}

-- a node that is no net: a port bit, a pin bit or a constant
abbrev pub IsBitOrConstant : List HCell → HCell → Node → Type 0
IsBitOrConstant cells cell (Port port bit) = IsPortBit cell port bit
IsBitOrConstant cells cell (Pin instance port bit) = IsPinBit cells cell instance port bit
IsBitOrConstant cells cell (Net net) = ⊥
IsBitOrConstant cells cell Zero = Unit {0}
IsBitOrConstant cells cell One = Unit {0}

-- a cell without instances that connects no two of its port bits and the two constants
pub record IsLeaf (cell : HCell) : Type 0 where
  pub no_instances : cell.instances ≡ []
  pub apart : (x y : Node) → IsPortBitOrConstant cell x → IsPortBitOrConstant cell y → IsLocallyConnected cell x y → x ≡ y

-- a leaf that has the name of the constant's cell and one port, a scalar output of that constant's port name
pub record IsConstantCell (names : ConstantNames) (value : Bool) (cell : HCell) : Type 0 where
  pub is_leaf : IsLeaf cell
  pub is_named : cell.name ≡ (name_of_constant names value).cell
  pub port : HPort
  pub only_port : cell.ports ≡ port ∷ []
  pub port_named : port.name ≡ (name_of_constant names value).port
  pub is_scalar : port.range ≡ None
  pub is_output : port.dir ≡ Output

-- a zero cell or a one cell
abbrev pub IsAnyConstantCell : ConstantNames → HCell → Type 0
IsAnyConstantCell names cell = (value : Bool) × IsConstantCell names value cell

-- the instance of this number in the cell is one of a cell for this constant
pub record IsConstantInstance (names : ConstantNames) (cells : List HCell) (cell : HCell) (value : Bool) (instance : ℕ) : Type 0 where
  pub the_instance : HInst
  pub is_there : slice_get cell.instances instance ≡ Some the_instance
  pub below : HCell
  pub is_below : IsCell cells the_instance.cell below
  pub is_constant : IsConstantCell names value below

-- each instance names one of the cells
abbrev pub InstancesInRange : List HCell → Type 0
InstancesInRange cells = (number : ℕ) (cell : HCell) (place : ℕ) (instance : HInst) → IsCell cells number cell → slice_get cell.instances place ≡ Some instance → instance.cell < length cells
