use Rattle.std.proofs.Common.{[], ◌∷◌, arith, refl}
use Rattle.edif_design.specs.References.{place_in}
use Rattle.edif_rules.proofs.WalkTurns.{room, walks_item, walks_none, walks_turn}
use Rattle.edif_rules.proofs.walk.meet_items.Goals as goal

pub loop-item-init : goal.loop-item-init
loop-item-init c = walks_none c.args.tables.now (place_in c.args.home c.args.cell.now) c.args.met.now _ c.unbroken-best.ensures

pub meet_item-requires-clause-scope : goal.meet_item-requires-clause-scope
meet_item-requires-clause-scope c = c.requires.scope

pub meet_item-requires-clause-few : goal.meet_item-requires-clause-few
meet_item-requires-clause-few c =
    let all = c.args.items.now in
    omega (
      arith,
      room (λ xs. xs) (λ x. x ∷ []) (λ xs x. refl) all all refl c.loop-item.item-index c.item-item.result (omega arith) c.item-item.is
          c.args.met.now.instances c.loop-item.met.instances 268435456 c.loop-item.invariant.few_met c.requires.few,
    )

pub loop-item-preserved : goal.loop-item-preserved
loop-item-preserved c =
    let all = c.args.items.now in
    let place = place_in c.args.home c.args.cell.now in
    let e = c.in_ok-next.ensures in
    walks_turn (λ xs. xs) (λ x. x ∷ []) (λ xs x. refl) c.args.tables.now place all all refl c.loop-item.item-index c.item-item.result (omega arith) c.item-item.is
    c.args.met.now c.loop-item.met c.meet_item.new.met c.loop-item.best c.in_ok-next.next c.lower-best.result c.loop-item.invariant
    (walks_item c.args.tables.now place c.item-item.result c.loop-item.met c.meet_item.new.met c.in_ok-next.next e.refusal e.met e.number) c.lower-best.ensures
