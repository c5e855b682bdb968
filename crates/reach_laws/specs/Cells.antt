-- Which cells of an EDIF file are reached, as a relation (EDIF 2 0 0, instance, cellRef).
use Rattle.std.specs.Prelude.{◌≡◌, ℕ, Some}
use Rattle.net_graph.specs.Graph.{IsReached}
use Rattle.edif_values.specs.declared.file.EdifFile.{EdifFile}
use Rattle.edif_design.specs.References.{CellPlace, top}
use Rattle.edif_design.specs.Reach.{cells_below}

-- instances lead down from the top of the file to the cell of this number, or it is the top
abbrev pub IsReachedFromTop : EdifFile → ℕ → Type 0
IsReachedFromTop file number = (place : ℕ × CellPlace) × (top file ≡ Some place) × IsReached (cells_below file) place.0 number
