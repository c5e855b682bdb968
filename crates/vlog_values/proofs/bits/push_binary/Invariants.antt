use Rattle.std.proofs.Common.{◌≡◌, ◌++◌}
use Rattle.vlog_values.specs.Bits.{binary_digits}
use Rattle.vlog_values.proofs.bits.push_binary.Given as goal

abbrev pub invariant-loop-i : goal.invariant-loop-i
invariant-loop-i l = l.bits.items ++ binary_digits l.i l.n ≡ l.initial.bits.items ++ binary_digits l.width l.n
