use Rattle.std.proofs.Common.{[], arith}
use Rattle.std.specs.List.{flat_map}
use Rattle.edif_design.specs.Design.{cell_properties}
use Rattle.edif_rules.proofs.Turns.{flat_grows, turn}
use Rattle.edif_cells.proofs.properties.all_properties.Goals as goal

pub loop-item-preserved : goal.loop-item-preserved
loop-item-preserved c =
    turn (flat_map cell_properties) cell_properties (flat_grows cell_properties) c.args.cell.now.items c.items-item-items.result.now c.items-item-items.ensures c.loop-item.item-index c.item-item.result (omega arith) c.item-item.is [] c.loop-item.made _ c.loop-item.invariant c.in_ok-push_of_cell.ensures
