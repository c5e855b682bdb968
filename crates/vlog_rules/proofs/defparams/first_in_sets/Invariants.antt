use Rattle.std.proofs.Common.{◌≡◌, drop, find, not}
use Rattle.vlog_design.specs.Names.{has_name}
use Rattle.vlog_rules.proofs.defparams.first_in_sets.Given as goal

abbrev pub invariant-loop-set : goal.invariant-loop-set
invariant-loop-set l = find (λ set. not (has_name l.names set.instance)) (drop l.set-index l.sets) ≡ find (λ set. not (has_name l.names set.instance)) l.sets
