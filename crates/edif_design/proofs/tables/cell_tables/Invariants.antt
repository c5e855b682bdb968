use Rattle.std.proofs.Common.{◌≡◌, ◌+◌, ◌++◌, drop, length}
use Rattle.std.specs.List.{flat_map}
use Rattle.edif_design.specs.Parts.{cells_in}
use Rattle.edif_design.specs.Tables.{seen, tables_from}
use Rattle.edif_design.proofs.tables.cell_tables.Given as goal

abbrev pub invariant-loop-library : goal.invariant-loop-library
invariant-loop-library l = record {
  made : l.tables.items ++ tables_from l.first (drop l.library-index (seen l.libraries)) ≡ tables_from 0 (seen l.libraries);
  counted : l.first + length (flat_map cells_in (drop l.library-index (seen l.libraries))) ≡ length (flat_map cells_in (seen l.libraries));
}
