-- The way from a spot up to the top, and the path of each spot.
use Rattle.std.specs.Prelude.{◌≡◌, ℕ, ◌<◌, List, [], ◌∷◌, slice_get, Option, Some, None, Contains, length, slice_index_or}
use Rattle.std.specs.Option.{option_and_then}
use Rattle.net_hier.specs.Cells.{IsPortBit}
use Rattle.net_hier.specs.Paths.{Path}
use Rattle.net_hier.specs.declared.cells.HCell.{HCell}
use Rattle.net_hier.specs.declared.cells.HInst.{HInst}
use Rattle.flat_numbers.specs.Numbers.{CellOf}
use Rattle.flat_numbers.specs.Spots.{IsSpotBelow, IsSpotOf}
use Rattle.flat_numbers.specs.declared.spots.Spot.{Spot}
use Rattle.flat_classes.specs.declared.flat.Terminal.{Terminal}
use Rattle.flat_classes.specs.declared.flat.Terminal.TheVariants.{Port, Pin, Zero, One}

-- the spots from this one up to the top, without the top
pub data IsWay (spots : List Spot) : ℕ → List ℕ → Type 0 where
  at_top : IsWay spots 0 []
  below : {number : ℕ} {spot : Spot} {way : List ℕ} → slice_get spots number ≡ Some spot → spot.parent < number → IsWay spots spot.parent way → IsWay spots number (number ∷ way)

-- the instance that a spot other than the top's is
abbrev pub instance_of : List HCell → List Spot → Spot → Option HInst
instance_of cells spots spot = option_and_then (λ above. option_and_then (λ cell. slice_get cell.instances spot.instance) (slice_get cells above.cell)) (slice_get spots spot.parent)

abbrev pub name_of : Option HInst → List ℕ
name_of None = []
name_of (Some instance) = instance.name

-- the name of that instance
abbrev pub instance_name : List HCell → List Spot → ℕ → List ℕ
instance_name cells spots number = name_of (option_and_then (instance_of cells spots) (slice_get spots number))

-- the spot is that of an instance
abbrev pub IsInner : List HCell → List Spot → ℕ → Type 0
IsInner cells spots number = (outer : ℕ) × (name : List ℕ) × IsSpotBelow cells spots outer name number

-- each spot is that of an instance
abbrev pub AreInner : List HCell → List Spot → List ℕ → Type 0
AreInner cells spots way = (number : ℕ) → Contains way number → IsInner cells spots number

-- the terminal is one of the design's
pub data IsTerminal (cells : List HCell) (spots : List Spot) : Terminal → Type 0 where
  a_port : {cell : HCell} {port bit : ℕ} → CellOf cells spots 0 cell → IsPortBit cell port bit → IsTerminal cells spots (Port port bit)
  a_pin : {cell : HCell} {spot port bit : ℕ} → CellOf cells spots spot cell → IsPortBit cell port bit → IsTerminal cells spots (Pin spot port bit)
  is_zero : IsTerminal cells spots Zero
  is_one : IsTerminal cells spots One

-- the path of each spot
pub record ArePaths (cells : List HCell) (spots : List Spot) (paths : List Path) : Type 0 where
  pub len : length paths ≡ length spots
  pub are : (number : ℕ) (path : Path) → slice_get paths number ≡ Some path → IsSpotOf cells spots path number

-- the path of the spot of this number
abbrev pub path_at : List Path → ℕ → Path
path_at paths number = slice_index_or paths number []
