use Rattle.std.proofs.Common.{Bool, List, take}
use Rattle.edif_plans.specs.Planned.{AreCells}
use Rattle.to_edif.specs.Cells.{AreKept, AreNewCells}
use Rattle.to_edif.specs.Left.{AreLeft}
use Rattle.to_edif.specs.Settings.{design_of}
use Rattle.to_edif.proofs.cells.made_in_order.Given as goal

abbrev pub invariant-loop-number : goal.invariant-loop-number
invariant-loop-number l = record {
  left : AreLeft l.fn.cells l.order l.number-index l.cells;
  kept : AreKept l.cells l.kept.items;
  cells : (values : List Bool) → AreNewCells l.setting.constants.now l.setting.plan.now values l.fn.first.items → AreCells l.setting.constants.now (design_of l.setting l.fn.cells) l.setting.plan.now values (take l.number-index l.order) l.made.items;
}
