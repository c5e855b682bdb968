use Rattle.std.proofs.Common.{arith}
use Rattle.vlog_cells.proofs.Turns.{said_turn}
use Rattle.vlog_cells.proofs.mentions.mention_names.Goals as goal

pub loop-name-preserved : goal.loop-name-preserved
loop-name-preserved c = λ key. said_turn c.args.names.now c.loop-name.name-index _ c.name-item.result c.args.mention key c.loop-name.found c.add.new.self _ c.bytes.result.now (omega arith) c.name-item.is c.bytes.ensures (c.loop-name.invariant key) (c.in_ok-add.ensures.added key)
