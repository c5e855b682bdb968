use Rattle.std.proofs.Common.{◌≡◌, ◌+◌, ◌<◌, false, [], ◌∷◌, ◌++◌, length, get_or, slice_set, sym, ◌∙◌, ap, subst, true, arith}
use Rattle.net_graph.specs.Graph.{HasList}
use Rattle.net_graph.proofs.Levelling.{below_within, stays_left, stays_new, stays_on, stays_within}
use Rattle.net_graph.proofs.ListLaws.{element_there}
use Rattle.net_graph.proofs.Walking.{less_listed, less_new, read_or, work}
use Rattle.net_graph.proofs.levels.levels_from.Goals as goal

pub index-requires : goal.index-requires
index-requires c =
    let lt : c.in-Some.visit.number < length c.args.graph.now = stays_within c.args.graph.now c.requires.in_range _ _ _ _ c.loop-visit.invariant c.in-Some.ensures.items in
    let below : get_or c.numbers_below-numbers.result.now c.in-Some.visit.followed 0 < length c.args.graph.now =
    below_within c.args.graph.now c.requires.in_range c.in-Some.visit.number c.numbers_below-numbers.result.now c.in-Some.visit.followed 0 c.numbers_below-numbers.ensures c.if-visit-numbers.true in
    omega (arith, below, c.loop-visit.invariant.seen_length, c.loop-visit.seen.ok.0)

pub index_mut-requires-then-not-index : goal.index_mut-requires-then-not-index
index_mut-requires-then-not-index c =
    let lt : c.in-Some.visit.number < length c.args.graph.now = stays_within c.args.graph.now c.requires.in_range _ _ _ _ c.loop-visit.invariant c.in-Some.ensures.items in
    let below : get_or c.numbers_below-numbers.result.now c.in-Some.visit.followed 0 < length c.args.graph.now =
    below_within c.args.graph.now c.requires.in_range c.in-Some.visit.number c.numbers_below-numbers.result.now c.in-Some.visit.followed 0 c.numbers_below-numbers.ensures c.if-visit-numbers.true in
    omega (arith, below, c.loop-visit.invariant.seen_length, c.loop-visit.seen.ok.0)

pub loop-visit-smaller-in-Continue-branch-7 : goal.loop-visit-smaller-in-Continue-branch-7
loop-visit-smaller-in-Continue-branch-7 c =
    let number = get_or c.numbers_below-numbers.result.now c.in-Some.visit.followed 0 in
    let lt : c.in-Some.visit.number < length c.args.graph.now = stays_within c.args.graph.now c.requires.in_range _ _ _ _ c.loop-visit.invariant c.in-Some.ensures.items in
    let below : get_or c.numbers_below-numbers.result.now c.in-Some.visit.followed 0 < length c.args.graph.now =
    below_within c.args.graph.now c.requires.in_range c.in-Some.visit.number c.numbers_below-numbers.result.now c.in-Some.visit.followed 0 c.numbers_below-numbers.ensures c.if-visit-numbers.true in
    let is_list : HasList c.args.graph.now c.in-Some.visit.number c.numbers_below-numbers.result.now = c.numbers_below-numbers.ensures in
    let next_lt : c.in-Some.visit.followed < length c.numbers_below-numbers.result.now = c.if-visit-numbers.true in
    let (list, is_below) = element_there c.args.graph.now number below in
    let in_seen : get_or c.numbers_below-numbers.result.now c.in-Some.visit.followed 0 < length c.loop-visit.seen.items = omega (arith, below, c.loop-visit.invariant.seen_length) in
    let not_seen : get_or c.loop-visit.seen.items (get_or c.numbers_below-numbers.result.now c.in-Some.visit.followed 0) false ≡ false =
    read_or c.loop-visit.seen.items number c.index.result.now in_seen c.index.ensures ∙ c.if-not-index.true in
    let s : c.push-then-not-index.new.self.items ≡ (c.pop.new.self.items ++ record { number = c.in-Some.visit.number; followed = c.in-Some.visit.followed + 1 } ∷ []) ++ record { number = get_or c.numbers_below-numbers.result.now c.in-Some.visit.followed 0; followed = 0 } ∷ [] =
    c.in_ok-push-3.ensures.items ∙ ap (λ w. w ++ record { number = get_or c.numbers_below-numbers.result.now c.in-Some.visit.followed 0; followed = 0 } ∷ []) c.in_ok-push-2.ensures.items in
    subst (λ w. work c.args.graph.now (slice_set c.loop-visit.seen.items (get_or c.numbers_below-numbers.result.now c.in-Some.visit.followed 0) true) w < work c.args.graph.now c.loop-visit.seen.items c.loop-visit.stack.items) (sym s)
    (less_new c.args.graph.now c.args.start c.requires.in_range c.loop-visit.seen.items c.loop-visit.stack.items c.pop.new.self.items c.in-Some.visit c.numbers_below-numbers.result.now list number c.in-Some.ensures.items is_list next_lt is_below in_seen not_seen)

pub loop-visit-preserved-in-Continue-branch-7 : goal.loop-visit-preserved-in-Continue-branch-7
loop-visit-preserved-in-Continue-branch-7 c =
    let lt : c.in-Some.visit.number < length c.args.graph.now = stays_within c.args.graph.now c.requires.in_range _ _ _ _ c.loop-visit.invariant c.in-Some.ensures.items in
    let below : get_or c.numbers_below-numbers.result.now c.in-Some.visit.followed 0 < length c.args.graph.now =
    below_within c.args.graph.now c.requires.in_range c.in-Some.visit.number c.numbers_below-numbers.result.now c.in-Some.visit.followed 0 c.numbers_below-numbers.ensures c.if-visit-numbers.true in
    stays_new c.args.graph.now c.requires.in_range c.loop-visit.seen.items c.push-then-visit-numbers.new.self.items c.push-then-not-index.new.self.items (get_or c.numbers_below-numbers.result.now c.in-Some.visit.followed 0)
    (stays_on c.args.graph.now c.requires.in_range c.loop-visit.seen.items c.loop-visit.stack.items c.pop.new.self.items c.push-then-visit-numbers.new.self.items c.in-Some.visit c.loop-visit.invariant c.in-Some.ensures.items c.in_ok-push-2.ensures.items)
    below c.in_ok-push-3.ensures.items

pub loop-visit-smaller-else-not-index : goal.loop-visit-smaller-else-not-index
loop-visit-smaller-else-not-index c =
    let lt : c.in-Some.visit.number < length c.args.graph.now = stays_within c.args.graph.now c.requires.in_range _ _ _ _ c.loop-visit.invariant c.in-Some.ensures.items in
    let is_list : HasList c.args.graph.now c.in-Some.visit.number c.numbers_below-numbers.result.now = c.numbers_below-numbers.ensures in
    let next_lt : c.in-Some.visit.followed < length c.numbers_below-numbers.result.now = c.if-visit-numbers.true in
    subst (λ w. work c.args.graph.now c.loop-visit.seen.items w < work c.args.graph.now c.loop-visit.seen.items c.loop-visit.stack.items) (sym c.in_ok-push-2.ensures.items)
    (less_listed c.args.graph.now c.args.start c.requires.in_range c.loop-visit.seen.items c.loop-visit.stack.items c.pop.new.self.items c.in-Some.visit c.numbers_below-numbers.result.now c.in-Some.ensures.items is_list next_lt)

pub loop-visit-preserved-else-not-index : goal.loop-visit-preserved-else-not-index
loop-visit-preserved-else-not-index c =
    stays_on c.args.graph.now c.requires.in_range c.loop-visit.seen.items c.loop-visit.stack.items c.pop.new.self.items c.push-then-visit-numbers.new.self.items c.in-Some.visit c.loop-visit.invariant c.in-Some.ensures.items c.in_ok-push-2.ensures.items

pub loop-visit-preserved : goal.loop-visit-preserved
loop-visit-preserved c = stays_left c.args.graph.now c.requires.in_range c.loop-visit.seen.items c.loop-visit.stack.items c.pop.new.self.items c.in-Some.visit c.loop-visit.invariant c.in-Some.ensures.items
