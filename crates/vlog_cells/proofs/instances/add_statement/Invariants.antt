use Rattle.std.proofs.Common.{◌≡◌, ◌++◌, drop, map}
use Rattle.vlog_cells.specs.Instances.{instance_by}
use Rattle.vlog_cells.proofs.instances.add_statement.Given as goal

abbrev pub invariant-loop-instance : goal.invariant-loop-instance
invariant-loop-instance l = l.made.items ++ map (instance_by l.cell l.fn.statement l.found) (drop l.instance-index l.fn.statement.insts) ≡ l.initial.made.items ++ map (instance_by l.cell l.fn.statement l.found) l.fn.statement.insts
