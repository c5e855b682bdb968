use Rattle.std.proofs.Common.{◌≡◌, ◌<◌, ◌≤◌, [], length, ◌+◌, true, false, ◌∷◌, ◌++◌, slice_set, arith, sym, ◌∙◌, ap, subst, get_or, replicate}
use Rattle.net_graph.specs.Graph.{HasList}
use Rattle.net_graph.proofs.Walking.{Keeps, Turn, keeps_closes, keeps_first, keeps_last, keeps_left, keeps_listed, keeps_new, less_listed, less_new, read_or, turn_of, within, work}
use Rattle.net_graph.proofs.ListLaws.{element_there, empty_list}
use Rattle.net_graph.proofs.OrderLaws.{postorder_free}
use Rattle.net_graph.proofs.order.postorder.Goals as goal

pub loop-visit-init : goal.loop-visit-init
loop-visit-init c =
    let a : c.in_ok-seen.seen.items ≡ replicate (length c.args.graph.now) false = c.in_ok-seen.ensures.items_if_clones_equal (λ y e. e) in
    let b : c.in_ok-listed.listed.items ≡ replicate (length c.args.graph.now) false = c.in_ok-listed.ensures.items_if_clones_equal (λ y e. e) in
    let o : c.new-order.result.items ≡ [] = c.new-order.ensures.items in
    let s : c.push.new.self.items ≡ record { number = c.args.start; followed = 0 } ∷ [] = c.in_ok-push.ensures.items ∙ ap (λ w. w ++ record { number = c.args.start; followed = 0 } ∷ []) c.new-stack.ensures.items in
    rw (a, b, o, s) (keeps_first c.args.graph.now c.args.start c.requires.in_range c.requires.within)

pub numbers_below-numbers-requires : goal.numbers_below-numbers-requires
numbers_below-numbers-requires c =
    let e : c.loop-visit.stack.items ≡ c.pop.new.self.items ++ c.in-Some.visit ∷ [] = c.in-Some.ensures.items in
    within _ _ _ _ _ _ _ _ c.loop-visit.invariant e

pub index-requires : goal.index-requires
index-requires c =
    let e : c.loop-visit.stack.items ≡ c.pop.new.self.items ++ c.in-Some.visit ∷ [] = c.in-Some.ensures.items in
    let t : Turn c.args.graph.now c.in-Some.visit c.numbers_below-numbers.result.now 0 =
    turn_of c.args.graph.now c.args.start c.loop-visit.seen.items c.loop-visit.listed.items c.loop-visit.order.items c.loop-visit.stack.items c.pop.new.self.items c.in-Some.visit c.numbers_below-numbers.result.now
    0 c.requires.in_range c.loop-visit.invariant e c.numbers_below-numbers.ensures c.if-visit-numbers.true in
    let l : length c.loop-visit.seen.items ≡ length c.args.graph.now = c.loop-visit.invariant.seen_length in
    omega (arith, t.below_in, c.loop-visit.seen.ok)

pub index_mut-requires-then-not-index : goal.index_mut-requires-then-not-index
index_mut-requires-then-not-index c =
    let e : c.loop-visit.stack.items ≡ c.pop.new.self.items ++ c.in-Some.visit ∷ [] = c.in-Some.ensures.items in
    let t : Turn c.args.graph.now c.in-Some.visit c.numbers_below-numbers.result.now 0 =
    turn_of c.args.graph.now c.args.start c.loop-visit.seen.items c.loop-visit.listed.items c.loop-visit.order.items c.loop-visit.stack.items c.pop.new.self.items c.in-Some.visit c.numbers_below-numbers.result.now
    0 c.requires.in_range c.loop-visit.invariant e c.numbers_below-numbers.ensures c.if-visit-numbers.true in
    let l : length c.loop-visit.seen.items ≡ length c.args.graph.now = c.loop-visit.invariant.seen_length in
    omega (arith, t.below_in, c.loop-visit.seen.ok)

pub loop-visit-smaller-in-Continue-branch-5 : goal.loop-visit-smaller-in-Continue-branch-5
loop-visit-smaller-in-Continue-branch-5 c =
    let e : c.loop-visit.stack.items ≡ c.pop.new.self.items ++ c.in-Some.visit ∷ [] = c.in-Some.ensures.items in
    let t : Turn c.args.graph.now c.in-Some.visit c.numbers_below-numbers.result.now 0 =
    turn_of c.args.graph.now c.args.start c.loop-visit.seen.items c.loop-visit.listed.items c.loop-visit.order.items c.loop-visit.stack.items c.pop.new.self.items c.in-Some.visit c.numbers_below-numbers.result.now
    0 c.requires.in_range c.loop-visit.invariant e c.numbers_below-numbers.ensures c.if-visit-numbers.true in
    let n : get_or c.loop-visit.seen.items (get_or c.numbers_below-numbers.result.now c.in-Some.visit.followed 0) false ≡ false =
    subst (λ b. get_or c.loop-visit.seen.items (get_or c.numbers_below-numbers.result.now c.in-Some.visit.followed 0) b ≡ b) c.if-not-index.true (sym c.index.ensures) in
    let s : c.push-then-not-index.new.self.items ≡ (c.pop.new.self.items ++ record { number = c.in-Some.visit.number; followed = c.in-Some.visit.followed + 1 } ∷ []) ++ record { number = (get_or c.numbers_below-numbers.result.now c.in-Some.visit.followed 0); followed = 0 } ∷ [] =
    c.in_ok-push-3.ensures.items ∙ ap (λ w. w ++ record { number = (get_or c.numbers_below-numbers.result.now c.in-Some.visit.followed 0); followed = 0 } ∷ []) c.in_ok-push-2.ensures.items in
    let l : length c.loop-visit.seen.items ≡ length c.args.graph.now = c.loop-visit.invariant.seen_length in
    let (below, is_below) = element_there c.args.graph.now (get_or c.numbers_below-numbers.result.now c.in-Some.visit.followed 0) t.below_in in
    let in_seen : (get_or c.numbers_below-numbers.result.now c.in-Some.visit.followed 0) < length c.loop-visit.seen.items = omega (arith, t.below_in) in
    subst (λ w. work c.args.graph.now (slice_set c.loop-visit.seen.items (get_or c.numbers_below-numbers.result.now c.in-Some.visit.followed 0) true) w < work c.args.graph.now c.loop-visit.seen.items c.loop-visit.stack.items) (sym s)
    (less_new c.args.graph.now c.args.start c.requires.in_range c.loop-visit.seen.items c.loop-visit.stack.items c.pop.new.self.items c.in-Some.visit c.numbers_below-numbers.result.now below (get_or c.numbers_below-numbers.result.now c.in-Some.visit.followed 0) e t.is_list t.is_next is_below in_seen n)

pub loop-visit-preserved-in-Continue-branch-5 : goal.loop-visit-preserved-in-Continue-branch-5
loop-visit-preserved-in-Continue-branch-5 c =
    let e : c.loop-visit.stack.items ≡ c.pop.new.self.items ++ c.in-Some.visit ∷ [] = c.in-Some.ensures.items in
    let t : Turn c.args.graph.now c.in-Some.visit c.numbers_below-numbers.result.now 0 =
    turn_of c.args.graph.now c.args.start c.loop-visit.seen.items c.loop-visit.listed.items c.loop-visit.order.items c.loop-visit.stack.items c.pop.new.self.items c.in-Some.visit c.numbers_below-numbers.result.now
    0 c.requires.in_range c.loop-visit.invariant e c.numbers_below-numbers.ensures c.if-visit-numbers.true in
    let n : get_or c.loop-visit.seen.items (get_or c.numbers_below-numbers.result.now c.in-Some.visit.followed 0) false ≡ false =
    subst (λ b. get_or c.loop-visit.seen.items (get_or c.numbers_below-numbers.result.now c.in-Some.visit.followed 0) b ≡ b) c.if-not-index.true (sym c.index.ensures) in
    let s : c.push-then-not-index.new.self.items ≡ (c.pop.new.self.items ++ record { number = c.in-Some.visit.number; followed = c.in-Some.visit.followed + 1 } ∷ []) ++ record { number = (get_or c.numbers_below-numbers.result.now c.in-Some.visit.followed 0); followed = 0 } ∷ [] =
    c.in_ok-push-3.ensures.items ∙ ap (λ w. w ++ record { number = (get_or c.numbers_below-numbers.result.now c.in-Some.visit.followed 0); followed = 0 } ∷ []) c.in_ok-push-2.ensures.items in
    subst (Keeps c.args.graph.now c.args.start (slice_set c.loop-visit.seen.items (get_or c.numbers_below-numbers.result.now c.in-Some.visit.followed 0) true) c.loop-visit.listed.items c.loop-visit.order.items) (sym s)
    (keeps_new c.args.graph.now c.args.start c.requires.in_range c.loop-visit.seen.items c.loop-visit.listed.items c.loop-visit.order.items c.loop-visit.stack.items c.pop.new.self.items c.in-Some.visit c.numbers_below-numbers.result.now
    (get_or c.numbers_below-numbers.result.now c.in-Some.visit.followed 0) e t.is_list t.there n c.loop-visit.invariant)

pub index-requires-else-not-index : goal.index-requires-else-not-index
index-requires-else-not-index c =
    let e : c.loop-visit.stack.items ≡ c.pop.new.self.items ++ c.in-Some.visit ∷ [] = c.in-Some.ensures.items in
    let t : Turn c.args.graph.now c.in-Some.visit c.numbers_below-numbers.result.now 0 =
    turn_of c.args.graph.now c.args.start c.loop-visit.seen.items c.loop-visit.listed.items c.loop-visit.order.items c.loop-visit.stack.items c.pop.new.self.items c.in-Some.visit c.numbers_below-numbers.result.now
    0 c.requires.in_range c.loop-visit.invariant e c.numbers_below-numbers.ensures c.if-visit-numbers.true in
    let l : length c.loop-visit.listed.items ≡ length c.args.graph.now = c.loop-visit.invariant.listed_length in
    omega (arith, t.below_in, c.loop-visit.listed.ok)

pub loop-visit-smaller-else-not-index-2 : goal.loop-visit-smaller-else-not-index-2
loop-visit-smaller-else-not-index-2 c =
    let e : c.loop-visit.stack.items ≡ c.pop.new.self.items ++ c.in-Some.visit ∷ [] = c.in-Some.ensures.items in
    let t : Turn c.args.graph.now c.in-Some.visit c.numbers_below-numbers.result.now 0 =
    turn_of c.args.graph.now c.args.start c.loop-visit.seen.items c.loop-visit.listed.items c.loop-visit.order.items c.loop-visit.stack.items c.pop.new.self.items c.in-Some.visit c.numbers_below-numbers.result.now
    0 c.requires.in_range c.loop-visit.invariant e c.numbers_below-numbers.ensures c.if-visit-numbers.true in
    let s : c.push-then-visit-numbers.new.self.items ≡ c.pop.new.self.items ++ record { number = c.in-Some.visit.number; followed = c.in-Some.visit.followed + 1 } ∷ [] = c.in_ok-push-2.ensures.items in
    subst (λ w. work c.args.graph.now c.loop-visit.seen.items w < work c.args.graph.now c.loop-visit.seen.items c.loop-visit.stack.items) (sym s)
    (less_listed c.args.graph.now c.args.start c.requires.in_range c.loop-visit.seen.items c.loop-visit.stack.items c.pop.new.self.items c.in-Some.visit c.numbers_below-numbers.result.now e t.is_list t.is_next)

pub loop-visit-preserved-else-not-index-2 : goal.loop-visit-preserved-else-not-index-2
loop-visit-preserved-else-not-index-2 c =
    let e : c.loop-visit.stack.items ≡ c.pop.new.self.items ++ c.in-Some.visit ∷ [] = c.in-Some.ensures.items in
    let t : Turn c.args.graph.now c.in-Some.visit c.numbers_below-numbers.result.now 0 =
    turn_of c.args.graph.now c.args.start c.loop-visit.seen.items c.loop-visit.listed.items c.loop-visit.order.items c.loop-visit.stack.items c.pop.new.self.items c.in-Some.visit c.numbers_below-numbers.result.now
    0 c.requires.in_range c.loop-visit.invariant e c.numbers_below-numbers.ensures c.if-visit-numbers.true in
    let s : c.push-then-visit-numbers.new.self.items ≡ c.pop.new.self.items ++ record { number = c.in-Some.visit.number; followed = c.in-Some.visit.followed + 1 } ∷ [] = c.in_ok-push-2.ensures.items in
    let y : get_or c.loop-visit.listed.items (get_or c.numbers_below-numbers.result.now c.in-Some.visit.followed 0) false ≡ true =
    read_or c.loop-visit.listed.items (get_or c.numbers_below-numbers.result.now c.in-Some.visit.followed 0) c.index-else-not-index.result.now (omega (arith, t.below_in, c.loop-visit.invariant.listed_length)) (c.index-else-not-index.ensures) ∙ c.if-not-index-2.false in
    subst (Keeps c.args.graph.now c.args.start c.loop-visit.seen.items c.loop-visit.listed.items c.loop-visit.order.items) (sym s)
    (keeps_listed c.args.graph.now c.args.start c.requires.in_range c.loop-visit.seen.items c.loop-visit.listed.items c.loop-visit.order.items c.loop-visit.stack.items c.pop.new.self.items c.in-Some.visit c.numbers_below-numbers.result.now
    (get_or c.numbers_below-numbers.result.now c.in-Some.visit.followed 0) e t.is_list t.there y c.loop-visit.invariant)

pub index_mut-requires-else-visit-numbers : goal.index_mut-requires-else-visit-numbers
index_mut-requires-else-visit-numbers c =
    let e : c.loop-visit.stack.items ≡ c.pop.new.self.items ++ c.in-Some.visit ∷ [] = c.in-Some.ensures.items in
    let lt : c.in-Some.visit.number < length c.args.graph.now = within _ _ _ _ _ _ _ _ c.loop-visit.invariant e in
    let is_list : HasList c.args.graph.now c.in-Some.visit.number c.numbers_below-numbers.result.now = c.numbers_below-numbers.ensures in
    let l : length c.loop-visit.listed.items ≡ length c.args.graph.now = c.loop-visit.invariant.listed_length in
    omega (arith, lt, c.loop-visit.listed.ok)

pub loop-visit-preserved : goal.loop-visit-preserved
loop-visit-preserved c =
    let e : c.loop-visit.stack.items ≡ c.pop.new.self.items ++ c.in-Some.visit ∷ [] = c.in-Some.ensures.items in
    let lt : c.in-Some.visit.number < length c.args.graph.now = within _ _ _ _ _ _ _ _ c.loop-visit.invariant e in
    let is_list : HasList c.args.graph.now c.in-Some.visit.number c.numbers_below-numbers.result.now = c.numbers_below-numbers.ensures in
    let o : c.push-else-visit-numbers.new.self.items ≡ c.loop-visit.order.items ++ c.in-Some.visit.number ∷ [] = c.in_ok-push-4.ensures.items in
    let past : length c.numbers_below-numbers.result.now ≤ c.in-Some.visit.followed = c.if-visit-numbers.false in
    subst (λ w. Keeps c.args.graph.now c.args.start c.loop-visit.seen.items (slice_set c.loop-visit.listed.items c.in-Some.visit.number true) w c.pop.new.self.items) (sym o)
    (keeps_left c.args.graph.now c.args.start c.requires.in_range c.loop-visit.seen.items c.loop-visit.listed.items c.loop-visit.order.items c.loop-visit.stack.items c.pop.new.self.items c.in-Some.visit c.numbers_below-numbers.result.now
    e is_list past c.loop-visit.invariant)

pub returns-then-not-index-2 : goal.returns-then-not-index-2
returns-then-not-index-2 c =
    let e : c.loop-visit.stack.items ≡ c.pop.new.self.items ++ c.in-Some.visit ∷ [] = c.in-Some.ensures.items in
    let t : Turn c.args.graph.now c.in-Some.visit c.numbers_below-numbers.result.now 0 =
    turn_of c.args.graph.now c.args.start c.loop-visit.seen.items c.loop-visit.listed.items c.loop-visit.order.items c.loop-visit.stack.items c.pop.new.self.items c.in-Some.visit c.numbers_below-numbers.result.now
    0 c.requires.in_range c.loop-visit.invariant e c.numbers_below-numbers.ensures c.if-visit-numbers.true in
    let is_seen : get_or c.loop-visit.seen.items (get_or c.numbers_below-numbers.result.now c.in-Some.visit.followed 0) false ≡ true =
    read_or c.loop-visit.seen.items (get_or c.numbers_below-numbers.result.now c.in-Some.visit.followed 0) c.index.result.now (omega (arith, t.below_in, c.loop-visit.invariant.seen_length)) c.index.ensures ∙ c.if-not-index.false in
    let not_listed : get_or c.loop-visit.listed.items (get_or c.numbers_below-numbers.result.now c.in-Some.visit.followed 0) false ≡ false =
    read_or c.loop-visit.listed.items (get_or c.numbers_below-numbers.result.now c.in-Some.visit.followed 0) c.index-else-not-index.result.now (omega (arith, t.below_in, c.loop-visit.invariant.listed_length)) c.index-else-not-index.ensures ∙ c.if-not-index-2.true in
    record {
      order = (
        c.in-Some.visit.number,
        keeps_closes c.args.graph.now c.args.start c.requires.in_range c.loop-visit.seen.items c.loop-visit.listed.items c.loop-visit.order.items c.loop-visit.stack.items c.pop.new.self.items c.in-Some.visit c.numbers_below-numbers.result.now
            (get_or c.numbers_below-numbers.result.now c.in-Some.visit.followed 0) e t.is_list t.there is_seen not_listed c.loop-visit.invariant,
      );
      free = λ some. let e : false ≡ true = some in absurd (cc);
    }

pub returns-clause-free : goal.returns-clause-free
returns-clause-free c some =
    let none : c.loop-visit.stack.items ≡ [] = empty_list c.loop-visit.stack.items (omega (arith, c.in_default.ensures.cases, c.loop-visit.stack.ok.0)) in
    let last : Keeps c.args.graph.now c.args.start c.loop-visit.seen.items c.loop-visit.listed.items c.loop-visit.order.items [] =
    subst (λ stack. Keeps c.args.graph.now c.args.start c.loop-visit.seen.items c.loop-visit.listed.items c.loop-visit.order.items stack) none c.loop-visit.invariant in
    postorder_free c.args.graph.now c.args.start c.loop-visit.order.items (keeps_last c.args.graph.now c.args.start c.requires.in_range c.loop-visit.seen.items c.loop-visit.listed.items c.loop-visit.order.items last)
