use Rattle.std.proofs.Common.{◌≡◌, ◌++◌, drop, map}
use Rattle.vlog_scopes.specs.Instances.{links_in, links_of}
use Rattle.vlog_scopes.proofs.recursion.push_statement.Given as goal

abbrev pub invariant-loop-instance : goal.invariant-loop-instance
invariant-loop-instance l = links_of l.out.items ++ links_in l.names (map (λ instance. (instance.name, l.fn.statement.module)) (drop l.instance-index l.fn.statement.insts)) ≡ links_of l.initial.out.items ++ links_in l.names (map (λ instance. (instance.name, l.fn.statement.module)) l.fn.statement.insts)
