use Rattle.std.proofs.Common.{◌≡◌, ◌++◌, drop, map}
use Rattle.vlog_design.specs.Tables.{names_of}
use Rattle.vlog_rules.proofs.repeats.names_of_params.Given as goal

abbrev pub invariant-loop-set : goal.invariant-loop-set
invariant-loop-set l = names_of l.names.items ++ map (λ x. x.name) (drop l.set-index l.sets) ≡ map (λ x. x.name) l.sets
