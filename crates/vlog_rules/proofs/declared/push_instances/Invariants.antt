use Rattle.std.proofs.Common.{◌≡◌, ◌++◌, drop, map}
use Rattle.vlog_design.specs.Names.{declared_as}
use Rattle.vlog_design.specs.declared.signals.Kind.TheVariants.{Instance}
use Rattle.vlog_rules.specs.Seen.{declarations_of}
use Rattle.vlog_rules.proofs.declared.push_instances.Given as goal

abbrev pub invariant-loop-instance : goal.invariant-loop-instance
invariant-loop-instance l = declarations_of l.out.items ++ declared_as Instance (map (λ instance. instance.name) (drop l.instance-index l.insts)) ≡ declarations_of l.initial.out.items ++ declared_as Instance (map (λ instance. instance.name) l.insts)
