use Rattle.std.specs.Prelude.{◌≡◌, ℕ, suc, ◌<◌, List, [], ◌∷◌, ◌++◌, slice_get, Some}
use Rattle.net_hier.specs.Design.{Design, IsCell}
use Rattle.net_hier.specs.Paths.{Path}
use Rattle.net_hier.specs.declared.cells.HCell.{HCell}
use Rattle.net_hier.specs.declared.cells.HInst.{HInst}
use Rattle.flat_numbers.specs.declared.spots.Spot.{Spot}

-- instances as spots below a parent; the first has the number `place` in the parent's cell
abbrev pub spots_below : ℕ → ℕ → List HInst → List Spot
spots_below parent place [] = []
spots_below parent place (instance ∷ rest) = record { parent = parent; instance = place; cell = instance.cell } ∷ spots_below parent (suc place) rest

-- the depth-first walk that gives numbers from `number` on: it lists the first of the spots that wait, then all spots below that one, then the others that wait
pub data Walks (cells : List HCell) : ℕ → List Spot → List Spot → Type 0 where
  ends : {number : ℕ} → Walks cells number [] []
  lists : {number : ℕ} {spot : Spot} {cell : HCell} {waiting after : List Spot} → IsCell cells spot.cell cell →
      Walks cells (suc number) (spots_below number 0 cell.instances ++ waiting) after → Walks cells number (spot ∷ waiting) (spot ∷ after)

abbrev pub top_spot : ℕ → Spot
top_spot top = record { parent = 0; instance = 0; cell = top }

-- the top and every path, in depth-first order
abbrev pub AreSpots : Design → List Spot → Type 0
AreSpots design spots = Walks design.cells 0 (top_spot design.top ∷ []) spots

-- one spot is that of an instance of the other's cell
pub record IsSpotBelow (cells : List HCell) (spots : List Spot) (outer : ℕ) (name : List ℕ) (inner : ℕ) : Type 0 where
  pub above : Spot
  pub is_above : slice_get spots outer ≡ Some above
  pub spot : Spot
  pub is_spot : slice_get spots inner ≡ Some spot
  pub no_top : 0 < inner
  pub of_parent : spot.parent ≡ outer
  pub cell : HCell
  pub is_cell : IsCell cells above.cell cell
  pub instance : HInst
  pub is_there : slice_get cell.instances spot.instance ≡ Some instance
  pub is_named : instance.name ≡ name

-- the number of the spot of a path
abbrev pub IsSpotOf : List HCell → List Spot → Path → ℕ → Type 0
IsSpotOf cells spots [] number = number ≡ 0
IsSpotOf cells spots (name ∷ path) number = (outer : ℕ) × IsSpotOf cells spots path outer × IsSpotBelow cells spots outer name number
