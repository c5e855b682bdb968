use Rattle.vlog_values.proofs.Steps.{moved, replicate_left}
use Rattle.vlog_values.proofs.bits.push_copies.Goals as goal

pub loop-i-preserved : goal.loop-i-preserved
loop-i-preserved c = rw c.in_ok-push.ensures.items (moved _ _ _ c.loop-i.invariant (replicate_left _ _ _ c.loop-i-test.true))
