use Rattle.std.proofs.Common.{arith}
use Rattle.edif_design.proofs.Turns.{in_items}
use Rattle.edif_design.proofs.ViewLaws.{viewed}
use Rattle.edif_design.proofs.views.view_entries.Goals as goal

pub loop-item-preserved : goal.loop-item-preserved
loop-item-preserved c =
    let at = in_items c.items-item-items.result.now c.args.cell.now.items c.items-item-items.ensures c.loop-item.item-index c.item-item.result (omega arith) c.item-item.is in
    viewed c.args.cell.now.items c.loop-item.item-index c.item-item.result at.0 at.1 _ _ c.loop-item.invariant c.in_ok-push_view.ensures
