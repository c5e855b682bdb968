use Rattle.std.proofs.Common.{◌≡◌, ◌∙◌, ◌++◌, ◌∷◌, [], ap, arith, false, map, refl, subst}
use Rattle.edif_design.specs.Design.{port_value}
use Rattle.edif_rules.specs.Lists.{seen}
use Rattle.edif_rules.proofs.Turns.{seen_map_grows, turn}
use Rattle.edif_rules.proofs.TableTurns.{seen_at, seen_within}
use Rattle.edif_cells.specs.Values.{is_bad_port}
use Rattle.edif_cells.proofs.GoodSizes.{good_at}
use Rattle.edif_cells.proofs.parts.ports_made.Goals as goal

pub port_of-requires : goal.port_of-requires
port_of-requires c =
    let at = seen_at c.args.ports.now c.loop-port.port-index c.port-item.result (omega arith) c.port-item.is in
    subst (λ p. is_bad_port p ≡ false) at
    (good_at is_bad_port (seen c.args.ports.now) c.loop-port.port-index c.port-item.result.now (seen_within c.args.ports.now c.loop-port.port-index c.port-item.result (omega arith) c.port-item.is) c.requires)

pub loop-port-preserved : goal.loop-port-preserved
loop-port-preserved c =
    turn (λ xs. map port_value (seen xs)) (λ x. port_value x.now ∷ []) (seen_map_grows port_value) c.args.ports.now c.args.ports.now refl c.loop-port.port-index c.port-item.result (omega arith) c.port-item.is
    [] c.loop-port.made _ c.loop-port.invariant (c.in_ok-push.ensures.added ∙ ap (λ v. c.loop-port.made ++ v ∷ []) c.in_ok-value.ensures)
