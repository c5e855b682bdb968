use Rattle.std.specs.Prelude.{◌≡◌, ℕ, ◌<◌, ◌≤◌, List, length, slice_get, Some}
use Rattle.net_hier.specs.Cells.{IsPortBit, IsPinBit, width_of}
use Rattle.net_hier.specs.Design.{Design, IsCell, cells_below}
use Rattle.net_hier.specs.Units.{units}
use Rattle.net_graph.specs.Graph.{IsPostorder, IsReached, ReachesItself}
use Rattle.net_hier.specs.declared.cells.HCell.{HCell}
use Rattle.net_hier.specs.declared.cells.HPort.{HPort}
use Rattle.net_hier.specs.declared.nodes.Join.{Join}
use Rattle.net_hier.specs.declared.nodes.Node.{Node}
use Rattle.net_hier.specs.declared.nodes.Node.TheVariants.{Port, Pin, Net, Zero, One}

-- the node is one of the cell's
abbrev pub IsNode : List HCell → HCell → Node → Type 0
IsNode cells cell (Port port bit) = IsPortBit cell port bit
IsNode cells cell (Pin instance port bit) = IsPinBit cells cell instance port bit
IsNode cells cell (Net net) = net < length cell.nets
IsNode cells cell Zero = Unit {0}
IsNode cells cell One = Unit {0}

-- the fact holds of each item
abbrev pub Each : {A : Type 0} → (A → Type 0) → List A → Type 0
Each {A = A} Holds items = (place : ℕ) (item : A) → slice_get items place ≡ Some item → Holds item

-- no two items have one name
abbrev pub HaveOwnNames : {A : Type 0} → (A → List ℕ) → List A → Type 0
HaveOwnNames {A = A} name items = (place oplace : ℕ) (item oitem : A) → slice_get items place ≡ Some item → slice_get items oplace ≡ Some oitem → name item ≡ name oitem → place ≡ oplace

-- the two nodes of a join are the cell's
abbrev pub IsJoinOf : List HCell → HCell → Join → Type 0
IsJoinOf cells cell join = IsNode cells cell join.a × IsNode cells cell join.b

-- a port of 1 to 65,536 bits
abbrev pub IsPortWidth : HPort → Type 0
IsPortWidth port = (1 ≤ width_of port.range) × (width_of port.range ≤ 65536)

-- what holds of each cell of a design: numbers are in range, port names differ, instance names differ, and each width is 1 to 65,536
pub record IsGoodCell (cells : List HCell) (cell : HCell) : Type 0 where
  pub instances_in_range : Each (λ instance. instance.cell < length cells) cell.instances
  pub joins_in_range : Each (IsJoinOf cells cell) cell.joins
  pub port_names : HaveOwnNames (λ port. port.name) cell.ports
  pub instance_names : HaveOwnNames (λ instance. instance.name) cell.instances
  pub widths : Each IsPortWidth cell.ports

-- the conditions of a design, but for the limits on its size
pub record IsValid (design : Design) : Type 0 where
  pub has_top : design.top < length design.cells
  pub good_cells : (number : ℕ) (cell : HCell) → IsCell design.cells number cell → IsGoodCell design.cells cell
  pub reached : (number : ℕ) → number < length design.cells → IsReached (cells_below design.cells) design.top number
  pub no_recursion : (number : ℕ) → ¬ ReachesItself (cells_below design.cells) number
  pub postorder : IsPostorder (cells_below design.cells) design.top design.order

-- the instances of each cell have names of their own
abbrev pub HaveOwnInstances : List HCell → Type 0
HaveOwnInstances cells = (number : ℕ) (cell : HCell) → IsCell cells number cell → HaveOwnNames (λ instance. instance.name) cell.instances

-- the top and the cells of the instances are there, and the instances of each cell have names of their own: what it takes that a path leads to one cell
pub record HasPaths (design : Design) : Type 0 where
  pub has_top : design.top < length design.cells
  pub instances_in_range : (number : ℕ) (cell : HCell) → IsCell design.cells number cell → Each (λ instance. instance.cell < length design.cells) cell.instances
  pub own_instances : HaveOwnInstances design.cells

-- the greatest number of cells, and of instances of a cell
abbrev pub count_limit : ℕ
count_limit = 268435456

-- the greatest number of units of a design
abbrev pub unit_limit : ℕ
unit_limit = 33554432

-- the limits on the numbers of cells and of instances
pub record HasFewParts (cells : List HCell) : Type 0 where
  pub few_cells : length cells ≤ count_limit
  pub few_instances : (number : ℕ) (cell : HCell) → IsCell cells number cell → length cell.instances ≤ count_limit

-- the numbers of cells and instances, the numbers that name things, names, widths and reach are as in a design
pub record CellsFit (cells : List HCell) (top : ℕ) : Type 0 where
  pub few_parts : HasFewParts cells
  pub has_top : top < length cells
  pub good_cells : (number : ℕ) (cell : HCell) → IsCell cells number cell → IsGoodCell cells cell
  pub reached : (number : ℕ) → number < length cells → IsReached (cells_below cells) top number

-- all conditions of a design
pub record IsHier (design : Design) : Type 0 where
  pub valid : IsValid design
  pub few_parts : HasFewParts design.cells
  pub few_units : units design.cells ≤ unit_limit
