use Rattle.std.proofs.Common.{◌≡◌, drop, find, nat_lt}
use Rattle.net_hier.specs.Cells.{width_of}
use Rattle.vlog_rules.proofs.wide.first_wide.Given as goal

abbrev pub invariant-loop-number : goal.invariant-loop-number
invariant-loop-number l = find (λ signal. nat_lt 65536 (width_of signal.slot.range)) (drop l.number l.table) ≡ find (λ signal. nat_lt 65536 (width_of signal.slot.range)) l.table
