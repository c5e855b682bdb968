use Rattle.std.proofs.Common.{[], arith, refl}
use Rattle.std.specs.Prelude.{option_to_list}
use Rattle.std.specs.List.{filter_map}
use Rattle.edif_design.specs.Design.{design_property}
use Rattle.edif_rules.proofs.Turns.{filter_grows, turn}
use Rattle.edif_cells.proofs.properties.push_properties.Goals as goal

pub loop-item-preserved : goal.loop-item-preserved
loop-item-preserved c =
    turn (filter_map design_property) (λ x. option_to_list (design_property x)) (filter_grows design_property) c.args.design.now.items c.items-item-items.result.now c.items-item-items.ensures c.loop-item.item-index c.item-item.result (omega arith) c.item-item.is c.args.props.now c.loop-item.props _ c.loop-item.invariant c.in_ok-push_of_design.ensures
