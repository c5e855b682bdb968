use Rattle.std.proofs.Common.{◌≡◌, Some, map, take}
use Rattle.net_bits.proofs.flood.all_of.Given as goal

abbrev pub invariant-loop-class : goal.invariant-loop-class
invariant-loop-class l = map Some l.numbers.items ≡ take l.class-index l.classes
