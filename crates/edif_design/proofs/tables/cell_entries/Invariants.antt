use Rattle.std.proofs.Common.{◌≡◌, take}
use Rattle.std.specs.List.{enumerate_from, filter_map}
use Rattle.edif_lookup.specs.Tables.{named, written}
use Rattle.edif_design.specs.Parts.{cell_in}
use Rattle.edif_design.specs.Tables.{cell_ident}
use Rattle.edif_design.proofs.tables.cell_entries.Given as goal

abbrev pub invariant-loop-item : goal.invariant-loop-item
invariant-loop-item l = written l.entries.items ≡ named cell_ident (enumerate_from l.first (filter_map cell_in (take l.item-index l.library.items)))
