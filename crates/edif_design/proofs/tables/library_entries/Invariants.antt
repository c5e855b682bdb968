use Rattle.std.proofs.Common.{◌≡◌, take}
use Rattle.edif_lookup.specs.Tables.{named, written}
use Rattle.edif_design.specs.Parts.{numbered}
use Rattle.edif_design.specs.Tables.{library_ident, seen}
use Rattle.edif_design.proofs.tables.library_entries.Given as goal

abbrev pub invariant-loop-number : goal.invariant-loop-number
invariant-loop-number l = written l.entries.items ≡ named library_ident (numbered (seen (take l.number l.libraries)))
