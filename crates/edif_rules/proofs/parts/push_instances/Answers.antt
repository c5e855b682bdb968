use Rattle.std.proofs.Common.{arith, refl}
use Rattle.std.specs.Prelude.{option_to_list}
use Rattle.std.specs.List.{filter_map}
use Rattle.edif_design.specs.Parts.{instance_in}
use Rattle.edif_rules.specs.Lists.{seen}
use Rattle.edif_rules.proofs.Turns.{filter_grows, turn}
use Rattle.edif_rules.proofs.parts.push_instances.Goals as goal

pub loop-item-preserved : goal.loop-item-preserved
loop-item-preserved c =
    turn (filter_map instance_in) (λ x. option_to_list (instance_in x)) (filter_grows instance_in) c.args.items.now c.args.items.now refl c.loop-item.item-index c.item-item.result (omega arith) c.item-item.is
    (seen c.args.list.now.items) (seen c.loop-item.list.items) _ c.loop-item.invariant c.in_ok-push_instance.ensures
