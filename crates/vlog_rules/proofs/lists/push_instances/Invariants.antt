use Rattle.std.proofs.Common.{◌≡◌, ◌++◌, drop, map}
use Rattle.vlog_design.specs.Tables.{names_of}
use Rattle.vlog_rules.proofs.lists.push_instances.Given as goal

abbrev pub invariant-loop-instance : goal.invariant-loop-instance
invariant-loop-instance l = names_of l.out.items ++ map (λ instance. instance.name) (drop l.instance-index l.insts) ≡ names_of l.initial.out.items ++ map (λ instance. instance.name) l.insts
