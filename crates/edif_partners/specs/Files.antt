-- The files that are made of a design: each of their cells is made for a constant or of a cell of the design.
use Rattle.std.specs.Prelude.{◌≡◌, ◌⊎◌, ℕ, Bool, true, List, slice_get, Some}
use Rattle.edif_values.specs.declared.cell.Cell.{Cell}
use Rattle.net_bits.specs.Classes.{AreClasses, ClassTable}
use Rattle.net_hier.specs.Constants.{ConstantNames, name_of_constant}
use Rattle.net_hier.specs.Design.{Design, IsCell}
use Rattle.net_hier.specs.Facts.{cell_props}
use Rattle.net_hier.specs.declared.cells.HCell.{HCell}
use Rattle.net_live.specs.Live.{needs_constant}
use Rattle.edif_plans.specs.Made.{IsMadeCell, new_cell_for}
use Rattle.edif_plans.specs.Plans.{head_at, head_of}
use Rattle.edif_plans.specs.declared.plan.Plan.{Plan}
use Rattle.edif_partners.specs.Placed.{ArePlaced, ConstantStands}

-- the cell with this number in the file is made for a constant
pub record IsNewCell (names : ConstantNames) (plan : Plan) (number : ℕ) (made : Cell) : Type 0 where
  pub value : Bool
  pub is_made : made ≡ new_cell_for (head_at plan number) (name_of_constant names value)

-- it is made of a cell of the design
pub record IsOldCell (design : Design) (plan : Plan) (made : Cell) : Type 0 where
  pub number : ℕ
  pub cell : HCell
  pub is_there : IsCell design.cells number cell
  pub classes : ClassTable
  pub are_classes : AreClasses cell classes
  pub is_made : IsMadeCell design.cells plan (head_of plan number) cell (cell_props design number cell) classes made

-- each cell is one or the other, all stand where the plan says, and so does the cell of each constant that a cell of the design needs
pub record AreMadeCells (names : ConstantNames) (design : Design) (plan : Plan) (cells : List Cell) : Type 0 where
  pub placed : ArePlaced design.cells plan cells
  pub each : (number : ℕ) (made : Cell) → slice_get cells number ≡ Some made → IsNewCell names plan number made ⊎ IsOldCell design plan made
  pub constants : (number : ℕ) (cell : HCell) (classes : ClassTable) (value : Bool) → IsCell design.cells number cell → AreClasses cell classes → needs_constant classes value ≡ true → ConstantStands plan cells value
