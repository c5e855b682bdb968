use Rattle.std.proofs.Common.{◌≡◌, [], true, drop}
use Rattle.net_live.specs.Last.{seen}
use Rattle.to_spice_rules.specs.Names.{alike_again, first_of}
use Rattle.to_spice_rules.proofs.again.first_again.Given as goal

abbrev pub invariant-loop-name : goal.invariant-loop-name
invariant-loop-name l = (l.used.up_to_case ≡ true) × (first_of (alike_again l.used.names (seen (drop l.name-index l.names))) ≡ first_of (alike_again [] (seen l.names)))
