use Rattle.std.proofs.Common.{[], arith, refl}
use Rattle.std.specs.Prelude.{option_to_list}
use Rattle.std.specs.List.{filter_map}
use Rattle.edif_design.specs.Parts.{net_in}
use Rattle.edif_rules.specs.Lists.{seen}
use Rattle.edif_rules.proofs.Turns.{seen_grows, turn}
use Rattle.edif_rules.proofs.parts.nets_in.Goals as goal

pub loop-item-preserved : goal.loop-item-preserved
loop-item-preserved c =
    turn (λ xs. filter_map net_in (seen xs)) (λ x. option_to_list (net_in x.now)) (seen_grows net_in) c.args.items.now c.args.items.now refl c.loop-item.item-index c.item-item.result (omega arith) c.item-item.is
    [] (seen c.loop-item.made.items) _ c.loop-item.invariant c.in_ok-push_net.ensures
