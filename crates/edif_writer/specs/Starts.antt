-- The lines of a block up to its parts.
use Rattle.std.specs.Prelude.{ℕ, List, ◌∷◌, ◌++◌, ◌+◌, codes}
use Rattle.edif_values.specs.declared.keyword.Keyword.{Keyword}
use Rattle.edif_values.specs.declared.keyword.Keyword.TheVariants as k
use Rattle.edif_values.specs.Keywords.{spelling}
use Rattle.edif_values.specs.declared.view.View.{View}
use Rattle.edif_values.specs.declared.cell.Cell.{Cell}
use Rattle.edif_values.specs.declared.library.Library.{Library}
use Rattle.edif_values.specs.declared.file.EdifFile.{EdifFile}
use Rattle.edif_writer.specs.Layout.{Form, Word, Forms, none, more, Block, Flat, Deep, Blocks, end, below, all, blanks, spaced, lines}
use Rattle.edif_writer.specs.Forms.{name_form, with_part, interface_item_block, kind_form, level_form, library_keyword, map_form, technology_form, version_form}

-- the first line of a block at its indent, and blocks below it, before the lines of its parts
abbrev pub start : ℕ → Keyword → Forms → Blocks → List ℕ → List ℕ
start n keyword head blocks rest = blanks n ++ (40 ∷ (spelling keyword ++ spaced head (10 ∷ lines (n + 2) blocks rest)))

-- contents up to their parts (EDIF 2 0 0, contents)
abbrev pub contents_start : ℕ → List ℕ → List ℕ
contents_start n = start n k.Contents none end

-- a view up to the parts behind its interface (EDIF 2 0 0, view)
abbrev pub view_start : ℕ → View → List ℕ → List ℕ
view_start n v = start n k.View (more (name_form v.name) none) (below (Flat (with_part k.ViewType (Word (codes "NETLIST")))) (below (Deep k.Interface none (all interface_item_block v.interface)) end))

-- a cell up to the parts behind its type (EDIF 2 0 0, cell)
abbrev pub cell_start : ℕ → Cell → List ℕ → List ℕ
cell_start n c = start n k.Cell (more (name_form c.name) none) (below (Flat (with_part k.CellType (kind_form c.kind))) end)

-- a library up to the parts behind its technology (EDIF 2 0 0, library, external)
abbrev pub library_start : ℕ → Library → List ℕ → List ℕ
library_start n l = start n (library_keyword l.external) (more (name_form l.name) none) (below (Flat level_form) (below (Flat (technology_form l)) end))

-- a file up to the parts behind its keyword map (EDIF 2 0 0, edif)
abbrev pub file_start : ℕ → EdifFile → List ℕ → List ℕ
file_start n f = start n k.Edif (more (name_form f.name) none) (below (Flat version_form) (below (Flat level_form) (below (Flat map_form) end)))
