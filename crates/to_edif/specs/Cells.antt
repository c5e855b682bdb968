-- The cells of the file of a design.
use Rattle.std.specs.Prelude.{◌≡◌, ℕ, ◌<◌, Bool, true, List, Option, length, slice_get, Some}
use Rattle.edif_values.specs.declared.cell.Cell.{Cell}
use Rattle.net_bits.specs.Classes.{AreClasses, ClassTable}
use Rattle.net_hier.specs.Constants.{ConstantNames, name_of_constant}
use Rattle.net_hier.specs.Design.{Design, IsCell}
use Rattle.net_hier.specs.declared.cells.HCell.{HCell}
use Rattle.net_live.specs.Live.{needs_constant}
use Rattle.edif_plans.specs.Made.{new_cell_for}
use Rattle.edif_plans.specs.Plans.{HasConstant, head_at}
use Rattle.edif_plans.specs.declared.plan.Plan.{Plan}
use Rattle.edif_value_laws.specs.Named.{HasWords}

-- the classes that are kept for a cell are its classes
abbrev pub AreKept : List HCell → List (Option ClassTable) → Type 0
AreKept cells kept = (number : ℕ) (cell : HCell) (classes : ClassTable) → IsCell cells number cell → slice_get kept number ≡ Some (Some classes) → AreClasses cell classes

-- each of the first cells has a head, with an identifier for its port
pub record HasNewHead (plan : Plan) (place : ℕ) : Type 0 where
  pub is_there : place < length plan.heads
  pub has_port : 0 < length (head_at plan place).ports

abbrev pub HaveHeads : Plan → ℕ → Type 0
HaveHeads plan count = (place : ℕ) → place < count → HasNewHead plan place

-- the new cells of these constants, under words
pub record AreNewCells (names : ConstantNames) (plan : Plan) (values : List Bool) (cells : List Cell) : Type 0 where
  pub as_many : length cells ≡ length values
  pub each : (place : ℕ) (value : Bool) (made : Cell) → slice_get values place ≡ Some value → slice_get cells place ≡ Some made → made ≡ new_cell_for (head_at plan place) (name_of_constant names value)
  pub words : (place : ℕ) → place < length values → HasWords (head_at plan place)

-- each constant that a cell needs has a cell in the file
abbrev pub HasConstants : Design → Plan → Type 0
HasConstants design plan = (number : ℕ) (cell : HCell) (classes : ClassTable) (value : Bool) → IsCell design.cells number cell → AreClasses cell classes → needs_constant classes value ≡ true → HasConstant plan value
