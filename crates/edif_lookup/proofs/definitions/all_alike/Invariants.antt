use Rattle.std.proofs.Common.{◌≡◌, map, take}
use Rattle.nl_base.specs.Case.{small}
use Rattle.edif_lookup.specs.Tables.{small_so, summary, written}
use Rattle.edif_lookup.proofs.definitions.all_alike.Given as goal

abbrev pub invariant-loop-entry : goal.invariant-loop-entry
invariant-loop-entry l = l.known ≡ summary (small_so (map small l.spelling) (written (take l.entry-index l.entries)))
