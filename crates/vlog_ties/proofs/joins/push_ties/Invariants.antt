use Rattle.std.proofs.Common.{◌≡◌, ◌++◌, drop, flat_map}
use Rattle.vlog_ties.specs.Ties.{tie_joins}
use Rattle.vlog_ties.proofs.joins.push_ties.Given as goal

abbrev pub invariant-loop-tie : goal.invariant-loop-tie
invariant-loop-tie l = l.out.items ++ flat_map (tie_joins l.table) (drop l.tie-index l.ties) ≡ l.initial.out.items ++ flat_map (tie_joins l.table) l.ties
