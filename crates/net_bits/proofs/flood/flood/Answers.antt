use Rattle.std.proofs.Common.{rules, arith, ◌≡◌, ◌+◌, ◌++◌, [], ◌∷◌, ◌∙◌, length, subst₂, sym, ap, refl}
use Rattle.std.proofs.lemmas.List.Sums.{sum_by-cons}
use Rattle.net_bits.specs.Flood.{unspent}
use Rattle.net_bits.proofs.Cost.{degree_of, owed, owed-popped, unnumbered, unspent-set}
use Rattle.net_bits.proofs.Flooding.{IsFlooding, flooding-root, flooding-popped, flooding-visited, flooding-below, next_at, visiting-turn}
use Rattle.net_bits.proofs.flood.flood.Goals as goal

pub loop-node-init : goal.loop-node-init
loop-node-init g c =
    let made = c.in_ok-number_node.ensures.unknown c.requires.unnumbered in
    let e : c.number_node.new.work.items ≡ c.args.root ∷ [] = made.1 ∙ ap (λ ws. ws ++ c.args.root ∷ []) c.requires.idle in
    let spent = unspent-set c.args.numbers.now c.args.adjacency.now.lists c.args.root c.args.class (omega arith) c.requires.len c.requires.unnumbered in
    record {
      flooding = subst₂ (λ ns t. IsFlooding c.args.adjacency.now.lists ns c.args.root c.args.class t) (sym made.0) (sym e)
          (flooding-root c.args.adjacency.now.lists c.args.numbers.now c.args.root c.args.class c.requires.len c.requires.root c.requires.unnumbered c.requires.numbered);
      cost = omega (arith, spent, ap (λ ns. unspent ns c.args.adjacency.now.lists) made.0, ap (owed c.args.adjacency.now.lists) e, sum_by-cons (degree_of c.args.adjacency.now.lists) c.args.root []);
    }

pub degree-place-end-requires : goal.degree-place-end-requires
degree-place-end-requires g c =
    let popped = flooding-popped c.args.adjacency.now.lists c.loop-node.numbers c.args.root c.args.class c.loop-node.work.items c.pop.new.self.items c.in-Some.node c.in-Some.node
    (search rules) refl c.loop-node.invariant.flooding in
    omega (arith, c.requires.nodes, flooding-below c.args.adjacency.now.lists c.loop-node.numbers c.args.root c.args.class c.in-Some.node c.pop.new.self.items popped)

pub loop-place-init : goal.loop-place-init
loop-place-init g c =
    let popped = flooding-popped c.args.adjacency.now.lists c.loop-node.numbers c.args.root c.args.class c.loop-node.work.items c.pop.new.self.items c.in-Some.node c.in-Some.node
    (search rules) refl c.loop-node.invariant.flooding in
    record {
      visiting = record { flooding = popped; seen = λ k h. absurd (omega arith); spends = refl; waits = refl };
      steps = search rules;
    }

pub loop-node-preserved : goal.loop-node-preserved
loop-node-preserved g c =
    let fall = owed-popped c.args.adjacency.now.lists c.loop-node.work.items c.pop.new.self.items c.in-Some.node (search rules) in
    record {
      flooding = flooding-visited c.args.adjacency.now.lists c.loop-place.numbers c.args.root c.args.class c.in-Some.node c.loop-place.work.items
          (λ k h. c.loop-place.invariant.visiting.seen k (omega arith)) c.loop-place.invariant.visiting.flooding;
      cost = omega (arith, fall, c.loop-place.invariant.visiting.spends);
    }

pub number_node-requires-in-loop-place : goal.number_node-requires-in-loop-place
number_node-requires-in-loop-place g c =
    let next = next_at c.args.adjacency.now.lists c.in-Some.node c.loop-place.place c.neighbour-other.result (omega arith) c.neighbour-other.ensures.neighbour in
    omega (arith, c.requires.lists.below c.in-Some.node c.neighbour-other.result next, c.loop-place.invariant.visiting.flooding.len)

pub returns-in_err-number_node-2-clause-cost : goal.returns-in_err-number_node-2-clause-cost
returns-in_err-number_node-2-clause-cost g c =
    let fall = owed-popped c.args.adjacency.now.lists c.loop-node.work.items c.pop.new.self.items c.in-Some.node (search rules) in
    omega (arith, c.loop-place.invariant.visiting.spends, fall, ap (λ ns. unspent ns c.args.adjacency.now.lists) c.in_err-number_node-2.ensures.kept)

pub loop-place-preserved : goal.loop-place-preserved
loop-place-preserved g c = record {
  visiting = visiting-turn c.args.adjacency.now.lists c.loop-place.numbers c.args.root c.args.class c.in-Some.node c.neighbour-other.result c.loop-place.place c.loop-place.work.items
      (owed c.args.adjacency.now.lists c.pop.new.self.items + unspent c.loop-node.numbers c.args.adjacency.now.lists) (length c.pop.new.self.items + unnumbered c.loop-node.numbers)
      c.requires.lists (omega arith) c.neighbour-other.ensures.neighbour c.loop-place.invariant.visiting
      c.number_node-in-loop-place.new.numbers c.number_node-in-loop-place.new.work.items c.in_ok-number_node-2.ensures.known c.in_ok-number_node-2.ensures.unknown;
  steps = omega arith;
}
