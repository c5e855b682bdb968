use Rattle.std.proofs.Common.{◌≡◌, ◌++◌, drop, map}
use Rattle.vlog_design.specs.Names.{declared_as}
use Rattle.vlog_design.specs.declared.signals.Kind.TheVariants.{Parameter}
use Rattle.vlog_rules.specs.Seen.{declarations_of}
use Rattle.vlog_rules.proofs.declared.push_sets.Given as goal

abbrev pub invariant-loop-set : goal.invariant-loop-set
invariant-loop-set l = declarations_of l.out.items ++ declared_as Parameter (map (λ set. set.name) (drop l.set-index l.sets)) ≡ declarations_of l.initial.out.items ++ declared_as Parameter (map (λ set. set.name) l.sets)
