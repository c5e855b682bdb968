use Rattle.std.proofs.Common.{◌≡◌, ◌∙◌, ◌++◌, ◌∷◌, [], ap, arith, false, map, refl, subst}
use Rattle.edif_design.specs.Design.{net_value}
use Rattle.edif_rules.specs.Lists.{seen}
use Rattle.edif_rules.proofs.Turns.{seen_map_grows, turn}
use Rattle.edif_cells.proofs.parts.nets_made.Goals as goal

pub loop-net-preserved : goal.loop-net-preserved
loop-net-preserved c =
    turn (λ xs. map net_value (seen xs)) (λ x. net_value x.now ∷ []) (seen_map_grows net_value) c.args.nets.now c.args.nets.now refl c.loop-net.net-index c.net-item.result (omega arith) c.net-item.is
    [] c.loop-net.made _ c.loop-net.invariant (c.in_ok-push.ensures.added ∙ ap (λ v. c.loop-net.made ++ v ∷ []) c.in_ok-value.ensures)
