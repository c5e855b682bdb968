use Rattle.std.proofs.Common.{◌≡◌, ◌-◌, length}
use Rattle.net_bits.specs.Names.{AreUsed, numbered}
use Rattle.net_bits.proofs.fresh.fresh_name.Given as goal

abbrev pub invariant-numbers : goal.invariant-numbers
invariant-numbers l = record {
  used : AreUsed l.used l.stem l.number;
  name : l.name ≡ numbered l.stem l.number;
}

abbrev pub decreases-numbers : goal.decreases-numbers
decreases-numbers l = length l.used.names - l.number
