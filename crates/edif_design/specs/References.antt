-- What references to libraries and cells mean (EDIF 2 0 0, cellRef, libraryRef).
use Rattle.std.specs.Prelude.{ℕ, ◌==◌, List, [], ◌∷◌, map, slice_get, Option, Some, None, option_map}
use Rattle.std.specs.List.{filter, flat_map}
use Rattle.std.specs.Option.{option_and_then}
use Rattle.edif_values.specs.declared.instance.Instance.{Instance}
use Rattle.edif_lookup.specs.Candidates.{candidates, the_only}
use Rattle.edif_values.specs.declared.cell.Cell.{Cell}
use Rattle.edif_values.specs.declared.file.Design.{Design}
use Rattle.edif_values.specs.declared.file.EdifFile.{EdifFile}
use Rattle.edif_values.specs.declared.library.Library.{Library}
use Rattle.edif_design.specs.Parts.{cells_in, designs, instances, libraries, numbered}

-- a cell, and the number of the library in which it stands
pub record CellPlace : Type 0 where
  pub library : ℕ
  pub cell : Cell

-- a cell in the library of this number
abbrev pub place_in : ℕ → Cell → CellPlace
place_in library cell = record { library = library; cell = cell }

-- all cells of the file, in file order; a cell's number is its place in this list
abbrev pub all_cells : EdifFile → List CellPlace
all_cells file = flat_map (λ library. map (place_in library.0) (cells_in library.1)) (numbered (libraries file))

-- the cells alone
abbrev pub file_cells : EdifFile → List Cell
file_cells file = map (λ place. place.cell) (all_cells file)

-- the candidates for a libraryRef
abbrev pub library_candidates : EdifFile → List ℕ → List (ℕ × Library)
library_candidates file = candidates (λ library. library.name.ident) (numbered (libraries file))

-- the cells of a library, with their numbers in the file
abbrev pub cells_of_library : EdifFile → ℕ → List (ℕ × CellPlace)
cells_of_library file library = filter (λ place. place.1.library == library) (numbered (all_cells file))

-- the candidates for a cellRef that looks in this library
abbrev pub cell_candidates : EdifFile → ℕ → List ℕ → List (ℕ × CellPlace)
cell_candidates file library = candidates (λ place. place.cell.name.ident) (cells_of_library file library)

-- the library in which a cellRef looks: that of its libraryRef, else the one in which it stands
abbrev pub library_meant : EdifFile → ℕ → Option (List ℕ) → Option ℕ
library_meant file home None = Some home
library_meant file home (Some spelling) = option_map (λ library. library.0) (the_only (library_candidates file spelling))

-- the cell that a cellRef and its libraryRef mean, with its number. In a library that is not meant no cell is looked up
abbrev pub link_meant : EdifFile → ℕ → Option (List ℕ) → List ℕ → Option (ℕ × CellPlace)
link_meant file home library spelling = option_and_then (λ number. the_only (cell_candidates file number spelling)) (library_meant file home library)

-- the cell that an instance in this library is of, with its number; what the viewRef means plays no part
abbrev pub cell_meant : EdifFile → ℕ → Instance → Option (ℕ × CellPlace)
cell_meant file home instance = link_meant file home instance.library instance.cell

-- the cell that a design is of
abbrev pub top_meant : EdifFile → Design → Option (ℕ × CellPlace)
top_meant file design = link_meant file 0 (Some design.library) design.cell

-- the top cell of the file: that of its design
abbrev pub first_meant : List (Option (ℕ × CellPlace)) → Option (ℕ × CellPlace)
first_meant [] = None
first_meant (top ∷ rest) = top

abbrev pub top : EdifFile → Option (ℕ × CellPlace)
top file = first_meant (map (top_meant file) (designs file))

-- the number of a cell that is meant
abbrev pub number_meant : Option (ℕ × CellPlace) → Option ℕ
number_meant = option_map (λ place. place.0)

-- for each instance of a cell, in order, the number of the cell that it is of
abbrev pub numbers_meant : EdifFile → CellPlace → List (Option ℕ)
numbers_meant file place = map (λ instance. number_meant (cell_meant file place.library instance)) (instances place.cell)

-- a cell, and for each of its instances, in order, the cell that it is of, with its number in the file
pub record LinkedCell : Type 0 where
  pub cell : Cell
  pub below : List (Option (ℕ × Cell))

-- the cell of a number
abbrev pub with_number : List Cell → ℕ → Option (ℕ × Cell)
with_number cells number = option_map (λ cell. (number, cell)) (slice_get cells number)

-- a cell whose instances are of the cells of these numbers
abbrev pub linked_by : List Cell → Cell → List (Option ℕ) → LinkedCell
linked_by cells cell numbers = record { cell = cell; below = map (option_and_then (with_number cells)) numbers }

-- a cell of the file, with the cells that its instances are of
abbrev pub linked_cell : EdifFile → CellPlace → LinkedCell
linked_cell file place = linked_by (file_cells file) place.cell (numbers_meant file place)
