-- What a walk of a file keeps.
use Rattle.std.specs.Prelude.{◌≡◌, ℕ, Bool, false, List, length, map, slice_get, Option, Some, None, is_none}
use Rattle.edif_lookup.specs.Refusals.{in_order, is_in, lowest}
use Rattle.edif_values.specs.declared.cell.Cell.{Cell}
use Rattle.edif_values.specs.declared.file.EdifFile.{EdifFile}
use Rattle.edif_values.specs.declared.file.FileItem.{FileItem}
use Rattle.edif_design.specs.FileRules.{cells_before, file_item_refusals}
use Rattle.edif_design.specs.Parts.{libraries_in, views}
use Rattle.edif_design.specs.Tables.{library_ident}
use Rattle.edif_resolve.specs.declared.file.Walk.{Walk}

-- the walk has passed these parts of the file: it keeps their first refusal, the names of their libraries, and how many libraries and cells they have
pub record HasPassed (file : EdifFile) (before : List FileItem) (walk : Walk) : Type 0 where
  pub best_is : walk.best ≡ lowest (in_order (file_item_refusals file) before)
  pub names_are : (other : List ℕ) → is_in other walk.names ≡ is_in other (map library_ident (libraries_in before))
  pub libraries_are : walk.libraries ≡ length (libraries_in before)
  pub cells_are : walk.cells ≡ cells_before before

-- there is a cell, and it has no view
abbrev pub lacks_view : Option Cell → Bool
lacks_view None = false
lacks_view (Some cell) = is_none (slice_get (views cell) 0)
