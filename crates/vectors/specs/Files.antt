-- Generated files (EDIF 2 0 0, edif, library, design).
use Rattle.std.specs.Prelude.{ℕ, ◌-◌, false, List, [], ◌∷◌, map, codes}
use Rattle.std.specs.List.{range_with_len}
use Rattle.edif_values.specs.declared.cell.Cell.{Cell}
use Rattle.edif_values.specs.declared.file.Design.{Design}
use Rattle.edif_values.specs.declared.file.EdifFile.{EdifFile}
use Rattle.edif_values.specs.declared.file.FileItem.TheVariants as file_items
use Rattle.edif_values.specs.declared.library.Library.{Library}
use Rattle.edif_values.specs.declared.library.LibraryItem.{LibraryItem}
use Rattle.edif_values.specs.declared.library.LibraryItem.TheVariants as library_items
use Rattle.vectors.specs.Cells.{cell, cell_ident, plain}

-- so many cells, from that of the number 0 on
abbrev pub cells_of : ℕ → ℕ → List Cell
cells_of seed count = map (cell seed) (range_with_len 0 count)

-- the library with these parts
abbrev pub library_with : List LibraryItem → Library
library_with items = record { external = false; name = plain (codes "gen"); scales = []; notes = []; items = items }

-- the library of these cells
abbrev pub library : List Cell → Library
library cells = library_with (map library_items.Cell cells)

-- the design of the cell of a number
abbrev pub design : ℕ → Design
design top = record { name = plain (codes "gen"); cell = cell_ident top; library = codes "gen"; items = [] }

-- the generated file of so many cells: a library of them, and the design of the last one
unfoldable pub generated : ℕ → ℕ → EdifFile
generated seed count = record {
  name = plain (codes "gen");
  items = file_items.Library (library (cells_of seed count)) ∷ (file_items.Design (design (count - 1)) ∷ []);
}
