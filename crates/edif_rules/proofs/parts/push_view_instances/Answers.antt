use Rattle.std.proofs.Common.{arith}
use Rattle.std.specs.List.{filter_map, flat_map}
use Rattle.edif_design.specs.Parts.{contents_in, instance_in}
use Rattle.edif_rules.specs.Lists.{seen}
use Rattle.edif_rules.proofs.Turns.{some_grow, turn}
use Rattle.edif_rules.proofs.parts.push_view_instances.Goals as goal

pub loop-item-preserved : goal.loop-item-preserved
loop-item-preserved c =
    turn (λ xs. filter_map instance_in (flat_map contents_in xs)) (λ x. filter_map instance_in (contents_in x)) (some_grow instance_in contents_in) c.args.view.now.items c.items-item-items.result.now c.items-item-items.ensures c.loop-item.item-index c.item-item.result (omega arith) c.item-item.is
    (seen c.args.list.now.items) (seen c.loop-item.list.items) _ c.loop-item.invariant c.in_ok-push_contents_instances.ensures
