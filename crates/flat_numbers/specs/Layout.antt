use Rattle.std.specs.Prelude.{◌≡◌, ℕ, ◌+◌, List, [], ◌∷◌, length, slice_index_or}
use Rattle.net_hier.specs.declared.cells.HCell.{HCell}
use Rattle.flat_numbers.specs.Numbers.{AreBases}
use Rattle.flat_numbers.specs.Spots.{Walks, top_spot}
use Rattle.flat_numbers.specs.declared.walk.Layout.{Layout}

-- the first number of a spot
abbrev pub base_of : List ℕ → ℕ → ℕ → ℕ
base_of bases count number = slice_index_or bases number count

-- all spots, with numbers that are apart
pub record IsLayout (cells : List HCell) (top count : ℕ) (layout : Layout) : Type 0 where
  pub are_spots : Walks cells 0 (top_spot top ∷ []) layout.spots.items
  pub len : length layout.bases.items ≡ length layout.spots.items
  pub are_bases : AreBases cells layout.spots.items (base_of layout.bases.items layout.count) layout.count
  pub few : length layout.spots.items + layout.count ≡ count + 2
