use Rattle.std.proofs.Common.{arith, map, refl}
use Rattle.std.specs.Prelude.{option_to_list}
use Rattle.edif_rules.specs.RefRefusals.{ref_node}
use Rattle.edif_rules.specs.Scopes.{lists_of}
use Rattle.edif_rules.proofs.Turns.{turn}
use Rattle.edif_cells.specs.Values.{join_of, joins_of}
use Rattle.edif_cells.proofs.CellLaws.{joins_grow}
use Rattle.edif_cells.proofs.joins.push_joins.Goals as goal

pub loop-reference-preserved : goal.loop-reference-preserved
loop-reference-preserved c =
    let lists = lists_of c.args.scope.now in
    turn (joins_of lists c.args.net) (λ x. map (join_of c.args.net) (option_to_list (ref_node lists x))) (joins_grow lists c.args.net) c.args.joined.now c.args.joined.now refl
    c.loop-reference.reference-index c.reference-item.result (omega arith) c.reference-item.is c.args.joins.now c.loop-reference.joins _ c.loop-reference.invariant c.in_ok-push_join.ensures
