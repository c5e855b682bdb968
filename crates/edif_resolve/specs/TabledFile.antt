-- What is known of a file before its rules are tried.
use Rattle.std.specs.Prelude.{◌≡◌, ℕ, ◌≤◌, Bool, List, map}
use Rattle.edif_values.specs.declared.port.Port.{Port}
use Rattle.net_hier.specs.Valid.{count_limit}
use Rattle.edif_values.specs.Sizes.{edif_size}
use Rattle.edif_values.specs.declared.file.EdifFile.{EdifFile}
use Rattle.edif_design.specs.Parts.{ports}
use Rattle.edif_design.specs.Reach.{cells_below, reached_marks}
use Rattle.edif_design.specs.References.{file_cells}

-- the ports of each cell, the numbers of the cells that its instances are of, and a mark for each cell that is reached from the top
pub record IsTabledFile (file : EdifFile) (port_tables : List (List Port)) (graph : List (List ℕ)) (marks : List Bool) : Type 0 where
  pub small_file : edif_size file ≤ count_limit
  pub port_tables_are : port_tables ≡ map ports (file_cells file)
  pub graph_is : graph ≡ cells_below file
  pub marks_are : marks ≡ reached_marks file
