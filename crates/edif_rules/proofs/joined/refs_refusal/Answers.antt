use Rattle.std.proofs.Common.{arith, map, refl, sym}
use Rattle.std.specs.Prelude.{option_to_list}
use Rattle.std.specs.List.{filter_map}
use Rattle.std.proofs.lemmas.List.{append-nil}
use Rattle.edif_rules.specs.RefRefusals.{ref_refusals_by, ref_node}
use Rattle.edif_rules.specs.Scopes.{lists_of}
use Rattle.edif_rules.specs.Spots.{node_at}
use Rattle.edif_rules.proofs.NetTurns.{lowest_more}
use Rattle.edif_rules.proofs.Turns.{filter_grows, turn}
use Rattle.edif_rules.proofs.joined.refs_refusal.Goals as goal

pub loop-reference-init : goal.loop-reference-init
loop-reference-init c = record { best = c.unbroken-best.ensures; spots = sym (append-nil (map node_at c.args.spots.now.items)) }

pub loop-reference-preserved : goal.loop-reference-preserved
loop-reference-preserved c =
    let v = c.loop-reference.invariant in
    let node = ref_node (lists_of c.args.scope.now) in
    record {
      best = lowest_more c.args.joined.now c.loop-reference.reference-index c.reference-item.result (omega arith) c.reference-item.is
          (ref_refusals_by (lists_of c.args.scope.now) c.args.names.now.cell.now c.args.names.now.net.now c.args.taken.now) c.loop-reference.best c.in_ok-next.next c.lower-best.result v.best c.in_ok-next.ensures.refusal c.lower-best.ensures;
      spots = turn (filter_map node) (λ x. option_to_list (node x)) (filter_grows node) c.args.joined.now c.args.joined.now refl c.loop-reference.reference-index c.reference-item.result (omega arith) c.reference-item.is
          (map node_at c.args.spots.now.items) (map node_at c.loop-reference.spots.items) _ v.spots c.in_ok-next.ensures.spots;
    }
