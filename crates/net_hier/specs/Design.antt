use Rattle.std.specs.Prelude.{◌≡◌, ℕ, List, [], map, slice_get, Some}
use Rattle.std.specs.Option.{option_map_or}
use Rattle.net_hier.specs.declared.cells.HCell.{HCell}
use Rattle.net_hier.specs.declared.cells.HProp.{HProp}

-- what a design says: its cells in file order, the number of the top cell, the design's properties, and the order of its cells, each after those below it
pub record Design : Type 0 where
  pub cells : List HCell
  pub top : ℕ
  pub props : List HProp
  pub order : List ℕ

-- the cell of this number
abbrev pub IsCell : List HCell → ℕ → HCell → Type 0
IsCell cells number cell = slice_get cells number ≡ Some cell

-- the name of the cell of this number, or no byte where there is none
abbrev pub top_name : List HCell → ℕ → List ℕ
top_name cells top = option_map_or (λ cell. cell.name) (slice_get cells top) []

-- the numbers of the cells of a cell's instances, in order
abbrev pub below_of : HCell → List ℕ
below_of cell = map (λ instance. instance.cell) cell.instances

-- for each cell the cells of its instances
abbrev pub cells_below : List HCell → List (List ℕ)
cells_below = map below_of
