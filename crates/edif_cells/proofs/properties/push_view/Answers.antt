use Rattle.std.proofs.Common.{[], arith, refl}
use Rattle.std.specs.Prelude.{option_to_list}
use Rattle.std.specs.List.{filter_map}
use Rattle.edif_design.specs.Design.{view_property}
use Rattle.edif_rules.proofs.Turns.{filter_grows, turn}
use Rattle.edif_cells.proofs.properties.push_view.Goals as goal

pub loop-item-preserved : goal.loop-item-preserved
loop-item-preserved c =
    turn (filter_map view_property) (λ x. option_to_list (view_property x)) (filter_grows view_property) c.args.items.now c.args.items.now refl c.loop-item.item-index c.item-item.result (omega arith) c.item-item.is c.args.props.now c.loop-item.props _ c.loop-item.invariant c.in_ok-push_of_view.ensures
