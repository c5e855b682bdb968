use Rattle.std.proofs.Common.{arith}
use Rattle.vlog_design.proofs.Steps.{done, moved}
use Rattle.vlog_ties.proofs.Connected.{instances_done, instances_step}
use Rattle.vlog_ties.proofs.connections.push_instances.Goals as goal

pub loop-instance-preserved : goal.loop-instance-preserved
loop-instance-preserved c = record {
  counted = omega (arith, c.loop-instance.invariant.counted);
  added = rw c.in_ok-push_instance.ensures.added
      (moved _ _ _ c.loop-instance.invariant.added (instances_step c.args.below.now.module.now c.loop-instance.number c.args.insts.now c.loop-instance.instance-index c.instance-item.result c.instance-item.is c.loop-instance-test.true));
}

pub returns : goal.returns
returns c = record { added = done _ c.loop-instance.invariant.added (instances_done c.args.below.now.module.now c.loop-instance.number c.args.insts.now c.loop-instance.instance-index c.loop-instance-test.false) }
