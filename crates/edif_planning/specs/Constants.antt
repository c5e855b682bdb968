-- What is known of a constant in a design.
use Rattle.std.specs.Prelude.{◌≡◌, ◌↔◌, ℕ, ◌+◌, ◌<◌, ◌++◌, ◌&&◌, Bool, true, false, cond, List, [], ◌∷◌, Option, Some, None, slice_get, is_none}
use Rattle.net_hier.specs.Cells.{IsConstantCell}
use Rattle.net_hier.specs.Constants.{ConstantNames}
use Rattle.net_hier.specs.Design.{Design, IsCell}
use Rattle.net_hier.specs.declared.cells.HCell.{HCell}
use Rattle.edif_plans.specs.Missing.{IsNeeded}
use Rattle.edif_planning.specs.declared.constants.Known.{Known}

-- the cell at this place of the order stands for the constant
pub record IsConstantAt (names : ConstantNames) (design : Design) (value : Bool) (place : ℕ) : Type 0 where
  pub number : ℕ
  pub cell : HCell
  pub is_placed : slice_get design.order place ≡ Some number
  pub is_cell : IsCell design.cells number cell
  pub is_constant : IsConstantCell names value cell

-- it is the first that does
pub record IsFirstConstantAt (names : ConstantNames) (design : Design) (value : Bool) (place : ℕ) : Type 0 where
  pub stands : IsConstantAt names design value place
  pub is_first : (earlier : ℕ) → earlier < place → ¬ IsConstantAt names design value earlier

-- the first place of the order whose cell stands for the constant; none where no cell does
abbrev pub IsFirstPlace : ConstantNames → Design → Bool → Option ℕ → Type 0
IsFirstPlace names design value None = (place : ℕ) → ¬ IsConstantAt names design value place
IsFirstPlace names design value (Some place) = IsFirstConstantAt names design value place

-- whether some cell needs the constant, and the first place whose cell stands for it
pub record IsKnown (names : ConstantNames) (design : Design) (value : Bool) (known : Known) : Type 0 where
  pub needed : (known.needed ≡ true) ↔ IsNeeded design value
  pub place : IsFirstPlace names design value known.place

-- whether the constant is missing: it is needed, and no cell stands for it
abbrev pub is_missing : Known → Bool
is_missing known = known.needed && is_none known.place

-- those of the two constants that are missing, the zero first
abbrev pub missing_of : Known → Known → List Bool
missing_of zero one = cond (is_missing zero) (false ∷ []) [] ++ cond (is_missing one) (true ∷ []) []

-- the number of the cell of a constant behind so many new cells: that of the cell that stands for it, else its own
abbrev pub number_for : Option ℕ → ℕ → ℕ → ℕ
number_for None count own = own
number_for (Some place) count own = count + place
