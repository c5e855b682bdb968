use Rattle.std.proofs.Common.{◌≡◌, ◌+◌, ◌++◌, drop}
use Rattle.vlog_ties.specs.Ties.{all_tied, instances_ties}
use Rattle.vlog_ties.proofs.connections.push_instances.Given as goal

abbrev pub invariant-loop-instance : goal.invariant-loop-instance
invariant-loop-instance l = record {
  counted : l.number ≡ l.initial.number + l.instance-index;
  added : all_tied l.out.items ++ instances_ties l.below.module.now l.number (drop l.instance-index l.insts) ≡ all_tied l.initial.out.items ++ instances_ties l.below.module.now l.initial.number l.insts;
}
