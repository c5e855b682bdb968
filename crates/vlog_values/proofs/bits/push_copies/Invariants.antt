use Rattle.std.proofs.Common.{◌≡◌, ◌++◌, ◌-◌, replicate}
use Rattle.vlog_values.proofs.bits.push_copies.Given as goal

abbrev pub invariant-loop-i : goal.invariant-loop-i
invariant-loop-i l = l.bits.items ++ replicate (l.count - l._i) l.bit ≡ l.initial.bits.items ++ replicate l.count l.bit
