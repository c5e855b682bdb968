use Rattle.std.proofs.Common.{arith}
use Rattle.vlog_cells.proofs.Turns.{set_turn}
use Rattle.vlog_cells.proofs.instances.note_sets.Goals as goal

pub loop-set-preserved : goal.loop-set-preserved
loop-set-preserved c = λ key. set_turn c.args.sets.now c.loop-set.set-index c.set-item.result _ key c.loop-set.found c.add.new.self _ c.bytes.result.now (omega arith) c.set-item.is c.bytes.ensures (c.loop-set.invariant key) (c.in_ok-add.ensures.added key)
