use Rattle.edif_planning.proofs.ClassLaws.{AreClassesUpTo}
use Rattle.edif_planning.proofs.classes.all_classes.Given as goal

abbrev pub invariant-loop-cell : goal.invariant-loop-cell
invariant-loop-cell l = AreClassesUpTo l.hier.cells l.cell-index l.all.items
