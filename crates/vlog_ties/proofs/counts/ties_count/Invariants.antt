use Rattle.std.proofs.Common.{◌≡◌, ◌+◌, ◌≤◌, drop, map, min, sum}
use Rattle.vlog_ties.specs.Ties.{all_tied, tied_count}
use Rattle.vlog_ties.proofs.counts.ties_count.Given as goal

abbrev pub invariant-loop-tie : goal.invariant-loop-tie
invariant-loop-tie l = record {
  capped : l.total ≤ 18446744073709551615;
  is_sum : min 18446744073709551615 (l.total + sum (map (tied_count l.table) (all_tied (drop l.tie-index l.ties)))) ≡ min 18446744073709551615 (sum (map (tied_count l.table) (all_tied l.ties)));
}
