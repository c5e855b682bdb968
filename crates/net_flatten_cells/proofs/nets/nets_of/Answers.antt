use Rattle.net_flatten_cells.proofs.NetLaws.{nets_more}
use Rattle.net_flatten_cells.proofs.nets.nets_of.Goals as goal

pub loop-number-preserved : goal.loop-number-preserved
loop-number-preserved c = nets_more c.loop-number.nets c.push.new.self c.loop-number.number c.in_ok-numbered_net.field-0 c.loop-number.invariant c.in_ok-numbered_net.ensures c.in_ok-push.ensures.added
