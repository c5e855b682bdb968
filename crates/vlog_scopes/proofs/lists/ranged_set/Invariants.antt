use Rattle.std.proofs.Common.{◌≡◌, ◌++◌, drop}
use Rattle.vlog_scopes.specs.Ranged.{lent_names}
use Rattle.vlog_scopes.proofs.lists.ranged_set.Given as goal

abbrev pub invariant-loop-one : goal.invariant-loop-one
invariant-loop-one l = l.set ++ lent_names (drop l.one-index l.ranged) ≡ lent_names l.ranged
