-- The rules E of a file, and the first refusal.
use Rattle.std.specs.Prelude.{ℕ, ◌+◌, true, cond, List, [], ◌∷◌, ◌++◌, map, length, slice_get, Option, Some, is_none, codes}
use Rattle.std.specs.List.{flat_map}
use Rattle.nl_base.specs.declared.rule.Refusal.{Refusal}
use Rattle.nl_base.specs.declared.rule.Rule.TheVariants.{E1, E4, E5, E13}
use Rattle.net_graph.specs.Marks.{is_marked, marks_of}
use Rattle.net_hier.specs.Design.{cells_below}
use Rattle.net_hier.specs.declared.cells.HCell.{HCell}
use Rattle.net_hier.specs.declared.cells.HInst.{HInst}
use Rattle.edif_values.specs.Names.{original}
use Rattle.edif_values.specs.declared.cell.Cell.{Cell}
use Rattle.edif_values.specs.declared.file.Design.{Design}
use Rattle.edif_values.specs.declared.file.EdifFile.{EdifFile}
use Rattle.edif_values.specs.declared.file.FileItem.{FileItem}
use Rattle.edif_values.specs.declared.file.FileItem.TheVariants as file_items
use Rattle.edif_values.specs.declared.library.Library.{Library}
use Rattle.edif_design.specs.CellRules.{cell_refusals, link_refusals}
use Rattle.edif_design.specs.Design.{edif_cells}
use Rattle.edif_design.specs.Parts.{cells_in, designs, libraries_in, numbered, views}
use Rattle.edif_design.specs.Reach.{is_reached}
use Rattle.edif_design.specs.References.{CellPlace, place_in, top_meant}
use Rattle.edif_lookup.specs.Refusals.{broken, first_refusal, if_some, in_order, is_in}

-- E5 of a cell after these cells of its library
abbrev pub second_cell : List Cell → Cell → List Refusal
second_cell earlier cell = broken (is_in cell.name.ident (map (λ other. other.name.ident) earlier)) E5 [] (codes "cell" ∷ (cell.name.ident ∷ []))

-- what the parts of the cell of this number break, where it is reached
abbrev pub reached_refusals : EdifFile → ℕ → CellPlace → List Refusal
reached_refusals file number place = cond (is_reached file number) (cell_refusals file place) []

-- what a cell breaks after these cells of its library, where the library has this number and its first cell that one
abbrev pub library_cell_refusals : EdifFile → ℕ → ℕ → List Cell → Cell → List Refusal
library_cell_refusals file library first before cell = second_cell before cell ++ reached_refusals file (first + length before) (place_in library cell)

-- how many cells stand in some parts of a file
abbrev pub cells_before : List FileItem → ℕ
cells_before before = length (flat_map cells_in (libraries_in before))

-- E5 of a library after these libraries
abbrev pub second_library : List Library → Library → List Refusal
second_library earlier library = broken (is_in library.name.ident (map (λ other. other.name.ident) earlier)) E5 [] (codes "library" ∷ (library.name.ident ∷ []))

-- E2, E3, E4 and E6 of a design
abbrev pub design_refusals : EdifFile → Design → List Refusal
design_refusals file design =
    link_refusals file 0 [] (Some design.library) design.cell
    ++ if_some (top_meant file design) (λ place. broken (is_none (slice_get (views place.1.cell) 0)) E4 [] (design.cell ∷ []))

-- what a part of a file breaks after these parts
abbrev pub file_item_refusals : EdifFile → List FileItem → FileItem → List Refusal
file_item_refusals file before (file_items.Library library) =
    second_library (libraries_in before) library
    ++ in_order (library_cell_refusals file (length (libraries_in before)) (cells_before before)) (cells_in library)
file_item_refusals file before (file_items.Design design) = design_refusals file design
file_item_refusals file before (file_items.Status status) = []
file_item_refusals file before (file_items.Note note) = []

-- E1: no design, or a second one
abbrev pub design_count_refusals : List Design → List Refusal
design_count_refusals [] = broken true E1 [] []
design_count_refusals (one ∷ []) = []
design_count_refusals (one ∷ (two ∷ rest)) = broken true E1 [] (original two.name ∷ [])

-- the refusals of the rules E1 to E12, in file order
unfoldable pub refusals : EdifFile → List Refusal
refusals file = design_count_refusals (designs file) ++ in_order (file_item_refusals file) file.items

-- E13 of an instance in the cell of this number and name: its cell is that cell or reaches it
abbrev pub closing_refusals : List HCell → ℕ → List ℕ → HInst → List Refusal
closing_refusals cells number name instance = broken (is_marked (marks_of (cells_below cells) instance.cell) number) E13 name (instance.name ∷ [])

-- E13 of the cells of a design: the instances by which a cell reaches itself
abbrev pub recursion_refusals : List HCell → List Refusal
recursion_refusals cells = flat_map (λ cell. flat_map (closing_refusals cells cell.0 cell.1.name) cell.1.instances) (numbered cells)

-- the first object that breaks the lowest broken rule; each rule is the list of the objects that break it, in file order
unfoldable pub first_E : EdifFile → Option Refusal
first_E file = first_refusal (refusals file ++ recursion_refusals (edif_cells file))
