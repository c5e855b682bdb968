-- What becomes of cells that fit.
use Rattle.std.specs.Prelude.{◌≡◌, ℕ, ◌<◌, ◌≤◌, List}
use Rattle.net_graph.specs.Graph.{IsFirstRecursion, IsPostorder, ReachesItself}
use Rattle.net_hier.specs.Design.{Design, cells_below}
use Rattle.net_hier.specs.Units.{units}
use Rattle.net_hier.specs.Valid.{IsHier, unit_limit}
use Rattle.net_hier.specs.declared.build.BuildFault.{BuildFault}
use Rattle.net_hier.specs.declared.build.BuildFault.TheVariants.{Recursion, TooBig, NoMemory}
use Rattle.net_hier.specs.declared.cells.HCell.{HCell}
use Rattle.net_hier.specs.declared.cells.HProp.{HProp}

-- the fault of a graph in which a number reaches itself; want of memory has no cause
abbrev pub IsRecursionFault : List (List ℕ) → BuildFault → Type 0
IsRecursionFault graph (Recursion cell instance) = IsFirstRecursion graph cell instance
IsRecursionFault graph (TooBig count) = ⊥
IsRecursionFault graph NoMemory = Unit {0}

-- no cell reaches itself, and this many units pass the limit
pub record IsTooBig (cells : List HCell) (count : ℕ) : Type 0 where
  pub no_recursion : (number : ℕ) → ¬ ReachesItself (cells_below cells) number
  pub is_count : count ≡ units cells
  pub passes : unit_limit < count

-- why the cells are no design; want of memory has no cause
abbrev pub IsFaultOf : List HCell → BuildFault → Type 0
IsFaultOf cells (Recursion cell instance) = IsFirstRecursion (cells_below cells) cell instance
IsFaultOf cells (TooBig count) = IsTooBig cells count
IsFaultOf cells NoMemory = Unit {0}

-- no cell reaches itself, and the order is the postorder of the walk from the top
pub record IsPostorderOf (cells : List HCell) (top : ℕ) (order : List ℕ) : Type 0 where
  pub no_recursion : (number : ℕ) → ¬ ReachesItself (cells_below cells) number
  pub postorder : IsPostorder (cells_below cells) top order

-- the order of cells of which none reaches itself, and whose units are within the limit
pub record IsOrderOf (cells : List HCell) (top : ℕ) (order : List ℕ) : Type 0 where
  pub no_recursion : (number : ℕ) → ¬ ReachesItself (cells_below cells) number
  pub few_units : units cells ≤ unit_limit
  pub postorder : IsPostorder (cells_below cells) top order

-- the design has these cells, this top and these properties, and keeps all conditions of a design
pub record IsBuilt (cells : List HCell) (top : ℕ) (props : List HProp) (design : Design) : Type 0 where
  pub same_cells : design.cells ≡ cells
  pub same_top : design.top ≡ top
  pub same_props : design.props ≡ props
  pub is_hier : IsHier design
