use Rattle.std.proofs.Common.{[], arith}
use Rattle.std.specs.Prelude.{option_to_list}
use Rattle.std.specs.List.{filter_map, flat_map}
use Rattle.edif_design.specs.Parts.{contents, instance_in, view_in}
use Rattle.edif_rules.specs.Lists.{seen}
use Rattle.edif_rules.proofs.Turns.{some_inner_grow, turn}
use Rattle.edif_rules.proofs.parts.instances_of.Goals as goal

pub loop-item-preserved : goal.loop-item-preserved
loop-item-preserved c =
    turn (λ xs. filter_map instance_in (flat_map contents (filter_map view_in xs))) (λ x. filter_map instance_in (flat_map contents (option_to_list (view_in x)))) (some_inner_grow instance_in view_in contents) c.args.cell.now.items c.items-item-items.result.now c.items-item-items.ensures c.loop-item.item-index c.item-item.result (omega arith) c.item-item.is
    [] (seen c.loop-item.made.items) _ c.loop-item.invariant c.in_ok-push_cell_instances.ensures
