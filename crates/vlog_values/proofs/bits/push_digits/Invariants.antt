use Rattle.std.proofs.Common.{◌≡◌, ◌++◌, drop, flat_map}
use Rattle.vlog_values.specs.Bits.{digit_bits}
use Rattle.vlog_values.proofs.bits.push_digits.Given as goal

abbrev pub invariant-loop-c : goal.invariant-loop-c
invariant-loop-c l = l.bits.items ++ flat_map (digit_bits l.width) (drop l.c-index l.digits) ≡ l.initial.bits.items ++ flat_map (digit_bits l.width) l.digits
