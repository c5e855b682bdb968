use Rattle.std.proofs.Common.{◌≡◌, drop, flat_map}
use Rattle.vlog_design.specs.Rules.{first_of}
use Rattle.vlog_rules.proofs.statements.first_in_instances.Given as goal

abbrev pub invariant-loop-instance : goal.invariant-loop-instance
invariant-loop-instance g l = first_of (flat_map (g.R.InstanceRule.objects l.rule l.of) (drop l.instance-index l.insts)) ≡ first_of (flat_map (g.R.InstanceRule.objects l.rule l.of) l.insts)
