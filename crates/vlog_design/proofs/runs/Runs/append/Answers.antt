use Rattle.vlog_design.proofs.RunLaws.{run_moved}
use Rattle.vlog_design.proofs.runs.Runs.append.Goals as goal

pub loop-run-preserved : goal.loop-run-preserved
loop-run-preserved c = run_moved c.loop-run.self _ _ c.deref-run-items.result.now c.other.inside.gap c.loop-run.run-index _ c.loop-run-test.true c.loop-run.invariant c.in_ok-push_nothing.ensures.added c.in_ok-push_nodes.ensures.added
