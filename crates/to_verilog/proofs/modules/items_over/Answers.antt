use Rattle.to_verilog.proofs.Fits.{added_items}
use Rattle.to_verilog.proofs.modules.items_over.Goals as goal

pub returns : goal.returns
returns c =
    added_items _ c.args.cells.now c.args.cell.now c.args.params.now c.args.wiring.now _ _ _
    c.items.ensures c.in_ok-push_assigns.ensures c.in_ok-push_instances.ensures
