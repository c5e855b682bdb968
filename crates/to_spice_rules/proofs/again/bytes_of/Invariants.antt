use Rattle.std.proofs.Common.{◌≡◌, ◌++◌, drop}
use Rattle.net_live.specs.Last.{seen}
use Rattle.to_spice_rules.proofs.again.bytes_of.Given as goal

abbrev pub invariant-loop-text : goal.invariant-loop-text
invariant-loop-text l = seen l.names.items ++ drop l.text-index l.texts ≡ l.texts
