use Rattle.edif_planning.proofs.ClassLaws.{cell_here, one_class}
use Rattle.edif_planning.proofs.classes.all_classes.Goals as goal

pub loop-cell-preserved : goal.loop-cell-preserved
loop-cell-preserved c =
    one_class c.args.hier.now.cells c.loop-cell.cell-index c.cell-item.result c.in_ok-classes.classes c.loop-cell.all.items _
    (cell_here c.args.hier.now.cells c.cells-cells.result.now c.loop-cell.cell-index c.cell-item.result c.cell-item.result c.cells-cells.ensures.cells c.loop-cell-test.true c.cell-item.is)
    c.in_ok-classes.ensures c.in_ok-push.ensures.items c.loop-cell.invariant
