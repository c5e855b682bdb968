use Rattle.std.proofs.Common.{◌≡◌, ◌-◌, ◌^◌, min, sum_by, take}
use Rattle.vlog_ties.specs.Ties.{all_tied, tied_most}
use Rattle.vlog_ties.proofs.counts.most_joins.Given as goal

abbrev pub invariant-loop-tie : goal.invariant-loop-tie
invariant-loop-tie l = l.most ≡ min (2 ^ 64 - 1) (sum_by (tied_most l.table) (all_tied (take l.tie-index l.ties)))
