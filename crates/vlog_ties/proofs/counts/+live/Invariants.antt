use Rattle.std.proofs.Common.{◌≡◌, ◌+◌, ◌≤◌, drop, map, min, sum}
use Rattle.vlog_design.specs.Exprs.{live_width}
use Rattle.vlog_ties.proofs.counts.+live.Given as goal

abbrev pub invariant-live_width_in-loop-part : goal.invariant-live_width_in-loop-part
invariant-live_width_in-loop-part l = record {
  capped : l.total ≤ 18446744073709551615;
  is_sum : min 18446744073709551615 (l.total + sum (map (live_width l.table) (drop l.part-index l.parts))) ≡ min 18446744073709551615 (sum (map (live_width l.table) l.parts));
}
