use Rattle.std.proofs.Common.{arith}
use Rattle.edif_design.proofs.Turns.{in_items, placed}
use Rattle.edif_design.proofs.tables.push_cells.Goals as goal

pub loop-item-preserved : goal.loop-item-preserved
loop-item-preserved c =
    let at = in_items c.items-item-items.result.now c.args.library.now.items c.items-item-items.ensures c.loop-item.item-index c.item-item.result (omega arith) c.item-item.is in
    placed c.args.number c.args.library.now.items c.loop-item.item-index c.item-item.result at.0 at.1 _ _ _ c.loop-item.invariant c.in_ok-push_cell.ensures
