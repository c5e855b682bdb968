-- The constants for which a file needs cells that the design does not have.
use Rattle.std.specs.Prelude.{◌≡◌, ◌↔◌, ℕ, Bool, true, false, List, [], ◌∷◌, filter}
use Rattle.net_hier.specs.Cells.{IsConstantCell}
use Rattle.net_hier.specs.Constants.{ConstantNames}
use Rattle.net_hier.specs.Design.{Design, IsCell}
use Rattle.net_hier.specs.SameCells.{NeedsConstant}
use Rattle.net_hier.specs.declared.cells.HCell.{HCell}

-- some cell of the design needs the constant
pub record IsNeeded (design : Design) (value : Bool) : Type 0 where
  pub number : ℕ
  pub cell : HCell
  pub is_there : IsCell design.cells number cell
  pub needs : NeedsConstant design.cells cell value

-- some cell needs the constant, and no cell stands for it
pub record IsMissing (names : ConstantNames) (design : Design) (value : Bool) : Type 0 where
  pub needed : IsNeeded design value
  pub none_there : (number : ℕ) (cell : HCell) → IsCell design.cells number cell → ¬ IsConstantCell names value cell

-- these are the constants that are missing, the zero first
pub record AreMissing (names : ConstantNames) (design : Design) (values : List Bool) : Type 0 where
  pub is_missing : Bool → Bool
  pub tells : (value : Bool) → (is_missing value ≡ true) ↔ IsMissing names design value
  pub are_those : values ≡ filter is_missing (false ∷ (true ∷ []))
