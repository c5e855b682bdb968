use Rattle.std.proofs.Common.{arith}
use Rattle.edif_design.specs.Parts.{library_in}
use Rattle.edif_design.proofs.Turns.{gathered, in_items}
use Rattle.edif_design.proofs.tables.libraries_of.Goals as goal

pub loop-item-preserved : goal.loop-item-preserved
loop-item-preserved c =
    let at = in_items c.items-item-items.result.now c.args.file.now.items c.items-item-items.ensures c.loop-item.item-index c.item-item.result (omega arith) c.item-item.is in
    gathered library_in c.args.file.now.items c.loop-item.item-index c.item-item.result at.0 at.1 _ _ c.loop-item.invariant c.in_ok-push_library.ensures
