-- Files whose cells are made under identifiers that can be written (EDIF 2 0 0, identifiers).
use Rattle.std.specs.Prelude.{◌≡◌, ◌⊎◌, ℕ, ◌<◌, List, length, slice_get, Some}
use Rattle.std.specs.List.{AllByRecursion}
use Rattle.edif_values.specs.Values.{IsWord}
use Rattle.edif_values.specs.declared.cell.Cell.{Cell}
use Rattle.edif_partners.specs.Files.{IsNewCell, IsOldCell}
use Rattle.edif_plans.specs.Plans.{head_at}
use Rattle.edif_plans.specs.declared.head.Head.{Head}
use Rattle.edif_plans.specs.declared.plan.Plan.{Plan}
use Rattle.net_hier.specs.Constants.{ConstantNames}
use Rattle.net_hier.specs.Design.{Design}

-- the identifiers of a cell and of its ports are words
pub record HasWords (head : Head) : Type 0 where
  pub cell : IsWord head.cell
  pub ports : AllByRecursion IsWord head.ports

-- the cell with this number in the file is made for a constant, under words for itself and its port
pub record IsNamedCell (names : ConstantNames) (plan : Plan) (number : ℕ) (made : Cell) : Type 0 where
  pub is_new : IsNewCell names plan number made
  pub words : HasWords (head_at plan number)
  pub has_port : 0 < length (head_at plan number).ports

-- each cell of a file is made for a constant, under words, or of a cell of the design
abbrev pub AreNamedCells : ConstantNames → Design → Plan → List Cell → Type 0
AreNamedCells names design plan cells = (number : ℕ) (made : Cell) → slice_get cells number ≡ Some made → IsNamedCell names plan number made ⊎ IsOldCell design plan made
