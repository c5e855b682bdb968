use Rattle.std.proofs.Common.{◌≡◌, ◌++◌, drop, map}
use Rattle.vlog_ties.specs.Ties.{Assign, all_tied}
use Rattle.vlog_ties.proofs.ties.push_assigns.Given as goal

abbrev pub invariant-loop-set : goal.invariant-loop-set
invariant-loop-set l = all_tied l.out.items ++ map (λ set. Assign set.left set.right) (drop l.set-index l.sets) ≡ all_tied l.initial.out.items ++ map (λ set. Assign set.left set.right) l.sets
