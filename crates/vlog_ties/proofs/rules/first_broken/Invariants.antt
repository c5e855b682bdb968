use Rattle.std.proofs.Common.{◌≡◌, drop, find}
use Rattle.vlog_ties.specs.Ties.{all_tied, is_broken, any_pairing}
use Rattle.vlog_ties.proofs.rules.first_broken.Given as goal

abbrev pub invariant-loop-tie : goal.invariant-loop-tie
invariant-loop-tie l = find (any_pairing (is_broken l.rule) l.table) (all_tied (drop l.tie-index l.ties)) ≡ find (any_pairing (is_broken l.rule) l.table) (all_tied l.ties)
