use Rattle.std.proofs.Common.{◌-◌}
use Rattle.vlog_design.specs.Runs.{node_after, nodes_from}
use Rattle.vlog_design.proofs.JoinLaws.{run_ended}
use Rattle.vlog_design.proofs.RowLaws.{pair_joined}
use Rattle.vlog_design.proofs.rows.push_later_pairs.Goals as goal

pub loop-i-preserved : goal.loop-i-preserved
loop-i-preserved c = pair_joined c.loop-i.out.items _ c.args.left c.args.right _ _ c.args.count c.loop-i.i c.loop-i-test.true c.loop-i.invariant c.node_after.ensures c.node_after-in-loop-i.ensures c.in_ok-push.ensures.items

pub returns : goal.returns
returns c = record { added = run_ended c.loop-i.out.items (nodes_from (node_after c.args.left c.loop-i.i) (c.args.count - c.loop-i.i)) c.args.right c.args.count c.loop-i.i c.loop-i-test.false c.loop-i.invariant }
