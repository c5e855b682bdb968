use Rattle.std.proofs.Common.{◌≡◌, None, take}
use Rattle.edif_lookup.specs.Tables.{first_number, spelled_so, written}
use Rattle.edif_lookup.proofs.definitions.first_spelled.Given as goal

abbrev pub invariant-loop-entry : goal.invariant-loop-entry
invariant-loop-entry l = first_number (spelled_so l.spelling (written (take l.entry-index l.entries))) ≡ None
