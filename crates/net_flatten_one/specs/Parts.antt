-- What is said of a design but the order of its cells.
use Rattle.std.specs.Prelude.{◌≡◌, ℕ, List}
use Rattle.net_hier.specs.Design.{Design}
use Rattle.net_hier.specs.declared.cells.HCell.{HCell}
use Rattle.net_hier.specs.declared.cells.HProp.{HProp}

-- the design has these cells, this top and these properties
pub record HasParts (cells : List HCell) (top : ℕ) (props : List HProp) (design : Design) : Type 0 where
  pub same_cells : design.cells ≡ cells
  pub same_top : design.top ≡ top
  pub same_props : design.props ≡ props
