use Rattle.std.proofs.Common.{◌≡◌, ◌++◌, ◌-◌, map}
use Rattle.std.specs.List.{range_with_len}
use Rattle.vlog_design.specs.Exprs.{node_at}
use Rattle.vlog_ties.proofs.joins.push_supply.Given as goal

abbrev pub invariant-loop-bit : goal.invariant-loop-bit
invariant-loop-bit l = l.out.items ++ map (λ bit. record { a = node_at l.slot.place bit; b = l.constant }) (range_with_len l.bit (l.width - l.bit)) ≡ l.initial.out.items ++ map (λ bit. record { a = node_at l.slot.place bit; b = l.constant }) (range_with_len 0 l.width)
