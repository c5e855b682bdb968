use Rattle.std.proofs.Common.{arith, ◌∷◌, ◌++◌, [], get_or, sym, ◌∙◌}
use Rattle.std.proofs.lemmas.List.{map_more}
use Rattle.std.proofs.lemmas.Option.{get_or_from_slice_get}
use Rattle.net_hier.specs.declared.nodes.Node.TheVariants.{Zero}
use Rattle.net_bits.proofs.classes.nodes_at.Goals as goal

pub loop-place-preserved : goal.loop-place-preserved
loop-place-preserved g c =
    let nodes = c.args.adjacency.now.nodes in
    let i = c.loop-place.place-index in
    let here = get_or_from_slice_get nodes (get_or c.args.places.now i 0) c.node-node.result Zero c.node-node.ensures.node in
    record {
      nodes = c.in_ok-push.ensures.items ∙ ((λ j. c.loop-place.invariant.nodes j ++ (sym here j ∷ [])) ∙ sym (map_more (λ place. get_or nodes place Zero) c.args.places.now i 0 c.loop-place-test.true));
      cost = omega arith;
    }
