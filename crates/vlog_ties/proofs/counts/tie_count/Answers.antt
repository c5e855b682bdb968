use Rattle.vlog_design.specs.Exprs.{literals}
use Rattle.vlog_design.specs.Numbers.{HasDigits}
use Rattle.vlog_design.proofs.Parts.{all_right}
use Rattle.vlog_ties.proofs.counts.tie_count.Goals as goal

pub live_width-requires-in-Assign : goal.live_width-requires-in-Assign
live_width-requires-in-Assign c = all_right HasDigits (literals c.in-Assign.left.now) (literals c.in-Assign.right.now) (rw c.in-Assign.is at c.requires)
