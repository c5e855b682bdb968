use Rattle.std.proofs.Common.{◌≡◌, take}
use Rattle.edif_lookup.specs.Tables.{named, written}
use Rattle.edif_design.specs.Parts.{numbered}
use Rattle.edif_design.specs.CellRules.{port_ident}
use Rattle.edif_rules.specs.Lists.{seen}
use Rattle.edif_rules.proofs.tables.port_entries.Given as goal

abbrev pub invariant-loop-number : goal.invariant-loop-number
invariant-loop-number l = written l.made.items ≡ named port_ident (numbered (seen (take l.number l.ports)))
