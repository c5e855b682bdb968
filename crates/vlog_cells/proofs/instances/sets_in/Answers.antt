use Rattle.vlog_cells.proofs.Turns.{no_sets}
use Rattle.vlog_cells.proofs.instances.sets_in.Goals as goal

pub loop-item-init : goal.loop-item-init
loop-item-init c = λ key. no_sets _ c.empty-found.ensures key _
