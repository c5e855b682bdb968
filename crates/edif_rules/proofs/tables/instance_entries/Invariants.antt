use Rattle.std.proofs.Common.{◌≡◌, take}
use Rattle.edif_lookup.specs.Tables.{named, written}
use Rattle.edif_design.specs.Parts.{numbered}
use Rattle.edif_rules.specs.Idents.{instance_ident}
use Rattle.edif_rules.specs.Lists.{seen}
use Rattle.edif_rules.proofs.tables.instance_entries.Given as goal

abbrev pub invariant-loop-number : goal.invariant-loop-number
invariant-loop-number l = written l.made.items ≡ named instance_ident (numbered (seen (take l.number l.instances)))
