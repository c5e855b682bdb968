use Rattle.std.proofs.Common.{[], arith}
use Rattle.std.specs.Prelude.{option_to_list}
use Rattle.std.specs.List.{filter_map, flat_map}
use Rattle.edif_design.specs.Parts.{contents, view_in}
use Rattle.edif_rules.specs.Lists.{seen}
use Rattle.edif_rules.proofs.Turns.{inner_grows, turn}
use Rattle.edif_rules.proofs.parts.contents_of.Goals as goal

pub loop-item-preserved : goal.loop-item-preserved
loop-item-preserved c =
    turn (λ xs. flat_map contents (filter_map view_in xs)) (λ x. flat_map contents (option_to_list (view_in x))) (inner_grows view_in contents) c.args.cell.now.items c.items-item-items.result.now c.items-item-items.ensures c.loop-item.item-index c.item-item.result (omega arith) c.item-item.is
    [] (seen c.loop-item.made.items) _ c.loop-item.invariant c.in_ok-push_cell_contents.ensures
