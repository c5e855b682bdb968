-- The units of modules, by their tables and joins.
use Rattle.std.specs.Prelude.{ℕ, ◌+◌, List, length, map}
use Rattle.net_hier.specs.declared.cells.HCell.{HCell}
use Rattle.vlog_design.specs.Design.{module_cell, module_joins}
use Rattle.vlog_ties.specs.Ties.{module_bits}
use Rattle.vlog_values.specs.declared.module.Module.{Module}

-- the bits of the ports and nets of a module, and its joins
abbrev pub module_units : List Module → Module → ℕ
module_units modules m = module_bits m + length (module_joins modules m)

-- the cells of the modules
abbrev pub cells_from : List Module → List HCell
cells_from modules = map (module_cell modules) modules
