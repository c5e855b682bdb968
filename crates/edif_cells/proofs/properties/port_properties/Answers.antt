use Rattle.std.proofs.Common.{[], arith, refl}
use Rattle.std.specs.Prelude.{option_to_list}
use Rattle.std.specs.List.{filter_map}
use Rattle.edif_design.specs.Design.{port_property}
use Rattle.edif_rules.proofs.Turns.{filter_grows, turn}
use Rattle.edif_cells.proofs.properties.port_properties.Goals as goal

pub loop-item-preserved : goal.loop-item-preserved
loop-item-preserved c =
    turn (filter_map port_property) (λ x. option_to_list (port_property x)) (filter_grows port_property) c.args.items.now c.args.items.now refl c.loop-item.item-index c.item-item.result (omega arith) c.item-item.is [] c.loop-item.made _ c.loop-item.invariant c.in_ok-push_of_port.ensures
