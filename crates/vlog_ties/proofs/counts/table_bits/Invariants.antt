use Rattle.std.proofs.Common.{◌≡◌, ◌-◌, ◌^◌, min, sum_by, take}
use Rattle.vlog_ties.specs.Ties.{signal_width}
use Rattle.vlog_ties.proofs.counts.table_bits.Given as goal

abbrev pub invariant-loop-number : goal.invariant-loop-number
invariant-loop-number l = l.bits ≡ min (2 ^ 64 - 1) (sum_by signal_width (take l.number l.table))
