-- The cells that are reached from the top: the top, and the cell of each instance of a reached cell.
use Rattle.std.specs.Prelude.{ℕ, Bool, List, [], map, Option, Some, None}
use Rattle.std.specs.List.{filter, filter_map}
use Rattle.net_graph.specs.Marks.{is_marked, marks_of}
use Rattle.edif_values.specs.declared.file.EdifFile.{EdifFile}
use Rattle.edif_design.specs.Parts.{numbered}
use Rattle.edif_design.specs.References.{CellPlace, all_cells, numbers_meant, top}

-- the numbers that are there
abbrev pub those_meant : List (Option ℕ) → List ℕ
those_meant = filter_map (λ number. number)

-- for each cell the numbers of the cells that its instances are of
abbrev pub cells_below : EdifFile → List (List ℕ)
cells_below file = map (λ place. those_meant (numbers_meant file place)) (all_cells file)

-- a mark for each cell: whether it is this one or is reached from it
abbrev pub marks_below : EdifFile → Option (ℕ × CellPlace) → List Bool
marks_below file None = []
marks_below file (Some place) = marks_of (cells_below file) place.0

-- a mark for each cell that is reached from the top
unfoldable pub reached_marks : EdifFile → List Bool
reached_marks file = marks_below file (top file)

-- whether the cell of this number is reached from the top
abbrev pub is_reached : EdifFile → ℕ → Bool
is_reached file number = is_marked (reached_marks file) number

-- the reached cells in file order, with their numbers
abbrev pub reached_cells : EdifFile → List (ℕ × CellPlace)
reached_cells file = filter (λ place. is_reached file place.0) (numbered (all_cells file))
