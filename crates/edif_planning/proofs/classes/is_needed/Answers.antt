use Rattle.edif_planning.proofs.ClassLaws.{classes_here, counted_at}
use Rattle.edif_planning.proofs.classes.is_needed.Goals as goal

pub needs_constant-requires : goal.needs_constant-requires
needs_constant-requires c = counted_at c.args.hier.now.cells c.args.all.now c.requires c.loop-classes.classes-index c.classes-item.result (classes_here c.args.all.now c.loop-classes.classes-index c.classes-item.result c.classes-item.result c.loop-classes-test.true c.classes-item.is)
