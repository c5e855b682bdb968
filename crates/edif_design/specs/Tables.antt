-- What the look-up tables of a file hold, and what they find.
use Rattle.std.specs.Prelude.{◌≡◌, ℕ, ◌+◌, List, [], ◌∷◌, map, length, get_or, Option, Some, None}
use Rattle.std.specs.Borrow.{Bor}
use Rattle.std.specs.List.{enumerate_from, flat_map}
use Rattle.nl_base.specs.declared.rule.Refusal.{Refusal}
use Rattle.nl_base.specs.declared.rule.Rule.{Rule}
use Rattle.nl_base.specs.declared.rule.Rule.TheVariants.{E2, E3, E6}
use Rattle.edif_lookup.specs.Tables.{meant_by, named}
use Rattle.edif_lookup.specs.declared.definitions.Meaning.{Meaning}
use Rattle.edif_lookup.specs.declared.definitions.Meaning.TheVariants.{Nothing, One, Several}
use Rattle.edif_values.specs.declared.cell.Cell.{Cell}
use Rattle.edif_values.specs.declared.file.EdifFile.{EdifFile}
use Rattle.edif_values.specs.declared.library.Library.{Library}
use Rattle.edif_design.specs.Parts.{cells_in, libraries, numbered}
use Rattle.edif_design.specs.References.{CellPlace, all_cells, cell_candidates, cells_of_library, file_cells, library_candidates, place_in}
use Rattle.edif_design.specs.Views.{view_names}
use Rattle.edif_design.specs.declared.links.Linked.{Linked}
use Rattle.edif_design.specs.declared.links.Linked.TheVariants as linked
use Rattle.edif_design.specs.declared.tables.PlacedCell.{PlacedCell}

-- the identifiers of libraries and of cells
abbrev pub library_ident : Library → List ℕ
library_ident library = library.name.ident

abbrev pub cell_ident : Cell → List ℕ
cell_ident cell = cell.name.ident

-- a cell of the file as the program holds it
abbrev pub place_of : PlacedCell → CellPlace
place_of place = record { library = place.library; cell = place.cell.now }

-- the things behind some borrows
abbrev pub seen : {A : Type 0} → List (Bor A) → List A
seen = map (λ borrowed. borrowed.now)

-- the cells of each library, with its number, from this number on
abbrev pub places_from : ℕ → List Library → List CellPlace
places_from first libraries_seen = flat_map (λ library. map (place_in library.0) (cells_in library.1)) (enumerate_from first libraries_seen)

-- the names of the cells of each library, numbered through all libraries from this number on
abbrev pub tables_from : ℕ → List Library → List (List (ℕ × List ℕ))
tables_from first [] = []
tables_from first (library ∷ rest) = named cell_ident (enumerate_from first (cells_in library)) ∷ tables_from (first + length (cells_in library)) rest

-- the tables hold the cells of the file, the views of each cell, the libraries, and the cells of each library
pub record HasTables (file : EdifFile) (places : List PlacedCell) (views_named : List (List (List ℕ))) (libraries_named : List (ℕ × List ℕ)) (cells_named : List (List (ℕ × List ℕ))) : Type 0 where
  pub places_are : map place_of places ≡ all_cells file
  pub views_are : views_named ≡ map view_names (file_cells file)
  pub libraries_are : libraries_named ≡ named library_ident (numbered (libraries file))
  pub cells_are : (library : ℕ) → get_or cells_named library [] ≡ named (λ place. place.cell.name.ident) (cells_of_library file library)

-- what follows from a meaning: a number, or a refusal by this rule
abbrev pub linked_as : Meaning → Rule → List ℕ → List ℕ → Linked
linked_as Nothing rule cell spelling = linked.Refused (record { rule = rule; cell = cell; names = spelling ∷ [] })
linked_as (One number) rule cell spelling = linked.Cell number
linked_as Several rule cell spelling = linked.Refused (record { rule = E6; cell = cell; names = spelling ∷ [] })

-- what follows once the library is known
abbrev pub link_in : Linked → (ℕ → Linked) → Linked
link_in (linked.Cell number) next = next number
link_in (linked.Refused refusal) next = linked.Refused refusal

-- what the candidates say of a libraryRef
abbrev pub library_link : EdifFile → ℕ → List ℕ → Option (List ℕ) → Linked
library_link file home cell None = linked.Cell home
library_link file home cell (Some name) = linked_as (meant_by (library_candidates file name)) E2 cell name

-- what the candidates say of a cellRef and its libraryRef
abbrev pub link_by_candidates : EdifFile → ℕ → List ℕ → Option (List ℕ) → List ℕ → Linked
link_by_candidates file home cell library spelling =
    link_in (library_link file home cell library) (λ number. linked_as (meant_by (cell_candidates file number spelling)) E3 cell spelling)

-- the number of the cell that is meant, and the refusal
abbrev pub linked_number : Linked → Option ℕ
linked_number (linked.Cell number) = Some number
linked_number (linked.Refused refusal) = None

abbrev pub linked_refusal : Linked → Option Refusal
linked_refusal (linked.Cell number) = None
linked_refusal (linked.Refused refusal) = Some refusal
