use Rattle.vlog_cells.proofs.Turns.{late_turn}
use Rattle.vlog_cells.proofs.nets.add_implicit.Goals as goal

pub loop-number-preserved : goal.loop-number-preserved
loop-number-preserved c = late_turn c.args.from c.args.table.now c.loop-number.number _ c.loop-number.made.items c.add_late.new.made.items c.loop-number.invariant c.in_ok-add_late.ensures.added
