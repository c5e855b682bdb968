use Rattle.std.proofs.Common.{take}
use Rattle.edif_lookup.specs.Tables.{HoldsSpellings, written}
use Rattle.edif_lookup.proofs.definitions.spelling_table.Given as goal

abbrev pub invariant-loop-entry : goal.invariant-loop-entry
invariant-loop-entry l = HoldsSpellings (written (take l.entry-index l.entries)) l.table
