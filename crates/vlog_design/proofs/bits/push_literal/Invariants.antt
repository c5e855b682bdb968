use Rattle.std.proofs.Common.{◌≡◌, ◌++◌, drop, map}
use Rattle.vlog_design.specs.Exprs.{constant_bit}
use Rattle.vlog_design.proofs.bits.push_literal.Given as goal

abbrev pub invariant-loop-bit : goal.invariant-loop-bit
invariant-loop-bit l = l.out ++ map constant_bit (drop l.bit-index l.bit-items) ≡ l.initial.out ++ map constant_bit l.bit-items
