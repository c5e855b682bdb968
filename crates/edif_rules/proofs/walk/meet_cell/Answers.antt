use Rattle.std.proofs.Common.{arith}
use Rattle.std.specs.Prelude.{option_to_list}
use Rattle.std.specs.List.{filter_map, flat_map}
use Rattle.edif_design.specs.Parts.{contents, view_in}
use Rattle.edif_design.specs.References.{place_in}
use Rattle.edif_rules.proofs.Turns.{inner_grows}
use Rattle.edif_rules.proofs.WalkTurns.{room, walks_none, walks_turn}
use Rattle.edif_rules.proofs.walk.meet_cell.Goals as goal

pub loop-item-init : goal.loop-item-init
loop-item-init c = walks_none c.args.tables.now (place_in c.args.home c.args.cell.now) c.args.met.now _ c.unbroken-best.ensures

pub meet_cell_item-requires-clause-scope : goal.meet_cell_item-requires-clause-scope
meet_cell_item-requires-clause-scope c = c.requires.scope

pub meet_cell_item-requires-clause-few : goal.meet_cell_item-requires-clause-few
meet_cell_item-requires-clause-few c =
    room (λ xs. flat_map contents (filter_map view_in xs)) (λ x. flat_map contents (option_to_list (view_in x))) (inner_grows view_in contents)
    c.args.cell.now.items c.items-item-items.result.now c.items-item-items.ensures c.loop-item.item-index c.item-item.result (omega arith) c.item-item.is
    c.args.met.now.instances c.loop-item.met.instances 268435456 c.loop-item.invariant.few_met c.requires.few

pub loop-item-preserved : goal.loop-item-preserved
loop-item-preserved c =
    walks_turn (λ xs. flat_map contents (filter_map view_in xs)) (λ x. flat_map contents (option_to_list (view_in x))) (inner_grows view_in contents) c.args.tables.now (place_in c.args.home c.args.cell.now)
    c.args.cell.now.items c.items-item-items.result.now c.items-item-items.ensures c.loop-item.item-index c.item-item.result (omega arith) c.item-item.is
    c.args.met.now c.loop-item.met c.meet_cell_item.new.met c.loop-item.best c.in_ok-next.next c.lower-best.result c.loop-item.invariant c.in_ok-next.ensures c.lower-best.ensures
