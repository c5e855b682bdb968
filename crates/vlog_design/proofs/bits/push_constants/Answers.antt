use Rattle.vlog_design.proofs.RunLaws.{ones, zeros}
use Rattle.vlog_design.proofs.bits.push_constants.Goals as goal

pub returns-in-Zero : goal.returns-in-Zero
returns-in-Zero c = record { added = rw (c.in-Zero.is, ← zeros) c.push_nodes.ensures.added }

pub returns-in-One : goal.returns-in-One
returns-in-One c = record { added = rw (c.in-One.is, ← ones) c.push_nodes-in-One.ensures.added }
