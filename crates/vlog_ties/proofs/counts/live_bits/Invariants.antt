use Rattle.std.proofs.Common.{◌≡◌, take}
use Rattle.std.specs.Prelude.{count_by}
use Rattle.vlog_design.specs.Exprs.{is_live}
use Rattle.vlog_ties.proofs.counts.live_bits.Given as goal

abbrev pub invariant-loop-bit : goal.invariant-loop-bit
invariant-loop-bit l = l.count ≡ count_by is_live (take l.bit-index l.bits)
