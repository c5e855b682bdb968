use Rattle.std.proofs.Common.{◌≡◌, ◌+◌, ◌++◌, [], ◌∷◌, length, length-append, reverse, arith, rules, subst, subst₂, sym, ap, ◌∙◌}
use Rattle.std.specs.Vec.{vec_len}
use Rattle.net_hier.specs.Design.{IsCell}
use Rattle.flat_numbers.specs.Layout.{base_of}
use Rattle.flat_numbers.specs.Numbers.{AreBases, numbers_of}
use Rattle.flat_numbers.specs.Spots.{Walks, spots_below, top_spot}
use Rattle.flat_numbers.proofs.Reading.{element_read, nothing_there}
use Rattle.flat_numbers.proofs.SpotWalk.{KeepsSpots, keeps_ends, keeps_first, keeps_next, keeps_same, taken_few, taken_within}
use Rattle.flat_numbers.proofs.walk.layout_of.Goals as goal

pub loop-spot-init : goal.loop-spot-init
loop-spot-init c =
    keeps_same c.args.cells.now c.args.top c.args.count [] (top_spot c.args.top ∷ []) [] 2 c.new-spots.result.items c.push.new.self.items c.new-bases.result.items 2 c.new-spots.ensures.items
    (c.in_ok-push.ensures.items ∙ ap (λ w. w ++ top_spot c.args.top ∷ []) c.new-stack.ensures.items) c.new-bases.ensures.items (search rules)
    (keeps_first c.args.cells.now c.args.top c.args.count c.requires.counted)

pub bounds-cells-spot : goal.bounds-cells-spot
bounds-cells-spot c = taken_within c.args.cells.now c.args.top c.args.count c.loop-spot.spots.items c.loop-spot.stack.items c.pop.new.self.items c.in-Some.spot c.loop-spot.bases.items c.loop-spot.base c.loop-spot.invariant c.in-Some.ensures.items

pub numbers-base-requires : goal.numbers-base-requires
numbers-base-requires c =
    let lt = taken_within c.args.cells.now c.args.top c.args.count c.loop-spot.spots.items c.loop-spot.stack.items c.pop.new.self.items c.in-Some.spot c.loop-spot.bases.items c.loop-spot.base c.loop-spot.invariant c.in-Some.ensures.items in
    let is : IsCell c.args.cells.now c.in-Some.spot.cell c.index-cells-spot.result = element_read c.args.cells.now c.in-Some.spot.cell c.index-cells-spot.result lt c.index-cells-spot.is in
    let f = taken_few c.args.cells.now c.args.top c.args.count c.loop-spot.spots.items c.loop-spot.stack.items c.pop.new.self.items c.in-Some.spot c.loop-spot.bases.items c.loop-spot.base c.loop-spot.invariant c.in-Some.ensures.items c.index-cells-spot.result is in
    omega (arith, f, c.requires.few)

pub overflow_add-base : goal.overflow_add-base
overflow_add-base c =
    let lt = taken_within c.args.cells.now c.args.top c.args.count c.loop-spot.spots.items c.loop-spot.stack.items c.pop.new.self.items c.in-Some.spot c.loop-spot.bases.items c.loop-spot.base c.loop-spot.invariant c.in-Some.ensures.items in
    let is : IsCell c.args.cells.now c.in-Some.spot.cell c.index-cells-spot.result = element_read c.args.cells.now c.in-Some.spot.cell c.index-cells-spot.result lt c.index-cells-spot.is in
    let f = taken_few c.args.cells.now c.args.top c.args.count c.loop-spot.spots.items c.loop-spot.stack.items c.pop.new.self.items c.in-Some.spot c.loop-spot.bases.items c.loop-spot.base c.loop-spot.invariant c.in-Some.ensures.items c.index-cells-spot.result is in
    let n : c.numbers-base.result ≡ numbers_of c.index-cells-spot.result = c.numbers-base.ensures in
    omega (arith, f, n, c.requires.few)

pub push_below-requires : goal.push_below-requires
push_below-requires c =
    let lt = taken_within c.args.cells.now c.args.top c.args.count c.loop-spot.spots.items c.loop-spot.stack.items c.pop.new.self.items c.in-Some.spot c.loop-spot.bases.items c.loop-spot.base c.loop-spot.invariant c.in-Some.ensures.items in
    let is : IsCell c.args.cells.now c.in-Some.spot.cell c.index-cells-spot.result = element_read c.args.cells.now c.in-Some.spot.cell c.index-cells-spot.result lt c.index-cells-spot.is in
    let f = taken_few c.args.cells.now c.args.top c.args.count c.loop-spot.spots.items c.loop-spot.stack.items c.pop.new.self.items c.in-Some.spot c.loop-spot.bases.items c.loop-spot.base c.loop-spot.invariant c.in-Some.ensures.items c.index-cells-spot.result is in
    let n : length c.items.result.now ≡ length c.index-cells-spot.result.instances = ap length c.items.ensures in
    omega (arith, f, n, c.requires.few)

pub loop-spot-smaller : goal.loop-spot-smaller
loop-spot-smaller c =
    let lt = taken_within c.args.cells.now c.args.top c.args.count c.loop-spot.spots.items c.loop-spot.stack.items c.pop.new.self.items c.in-Some.spot c.loop-spot.bases.items c.loop-spot.base c.loop-spot.invariant c.in-Some.ensures.items in
    let is : IsCell c.args.cells.now c.in-Some.spot.cell c.index-cells-spot.result = element_read c.args.cells.now c.in-Some.spot.cell c.index-cells-spot.result lt c.index-cells-spot.is in
    let f = taken_few c.args.cells.now c.args.top c.args.count c.loop-spot.spots.items c.loop-spot.stack.items c.pop.new.self.items c.in-Some.spot c.loop-spot.bases.items c.loop-spot.base c.loop-spot.invariant c.in-Some.ensures.items c.index-cells-spot.result is in
    let n : c.numbers-base.result ≡ numbers_of c.index-cells-spot.result = c.numbers-base.ensures in
    let l : length c.push-in-Some.new.self.items ≡ length c.loop-spot.spots.items + 1 = ap length c.in_ok-push-2.ensures.items ∙ length-append c.loop-spot.spots.items (c.in-Some.spot ∷ []) in
    omega (arith, f, n, l)

pub loop-spot-preserved : goal.loop-spot-preserved
loop-spot-preserved c =
    let lt = taken_within c.args.cells.now c.args.top c.args.count c.loop-spot.spots.items c.loop-spot.stack.items c.pop.new.self.items c.in-Some.spot c.loop-spot.bases.items c.loop-spot.base c.loop-spot.invariant c.in-Some.ensures.items in
    let is : IsCell c.args.cells.now c.in-Some.spot.cell c.index-cells-spot.result = element_read c.args.cells.now c.in-Some.spot.cell c.index-cells-spot.result lt c.index-cells-spot.is in
    let k = keeps_next c.args.cells.now c.args.top c.args.count c.loop-spot.spots.items c.loop-spot.stack.items c.pop.new.self.items c.in-Some.spot c.loop-spot.bases.items c.loop-spot.base c.loop-spot.invariant c.in-Some.ensures.items c.index-cells-spot.result is in
    let number : c.len-number.result ≡ length c.loop-spot.spots.items = omega (arith, c.len-number.ensures, c.loop-spot.spots.ok) in
    keeps_same c.args.cells.now c.args.top c.args.count _ (c.pop.new.self.items ++ reverse (spots_below (length c.loop-spot.spots.items) 0 c.index-cells-spot.result.instances)) _ _ _ _ _ _
    c.in_ok-push-2.ensures.items
    (c.in_ok-push_below.ensures ∙ (ap (λ n. c.pop.new.self.items ++ reverse (spots_below n 0 c.items.result.now)) number ∙ ap (λ is. c.pop.new.self.items ++ reverse (spots_below (length c.loop-spot.spots.items) 0 is)) c.items.ensures))
    c.in_ok-push-3.ensures.items (ap (λ n. c.loop-spot.base + n) c.numbers-base.ensures) k

pub returns : goal.returns
returns c =
    let none : vec_len c.loop-spot.stack ≡ 0 = c.in_default.ensures.cases.0 in
    let empty : c.loop-spot.stack.items ≡ [] = nothing_there c.loop-spot.stack.items (omega (arith, none, c.loop-spot.stack.ok)) in
    let e = keeps_ends c.args.cells.now c.args.top c.args.count c.loop-spot.spots.items c.loop-spot.bases.items c.loop-spot.base (subst (λ w. KeepsSpots c.args.cells.now c.args.top c.args.count c.loop-spot.spots.items w c.loop-spot.bases.items c.loop-spot.base) empty c.loop-spot.invariant) in
    let spots : c.shrink_to_fit.new.self.items ≡ c.loop-spot.spots.items = c.shrink_to_fit.ensures.items in
    let bases : c.shrink_to_fit-2.new.self.items ≡ c.loop-spot.bases.items = c.shrink_to_fit-2.ensures.items in
    record {
      are_spots = subst (λ ss. Walks c.args.cells.now 0 (top_spot c.args.top ∷ []) ss) (sym spots) e.0;
      len = ap length bases ∙ (c.loop-spot.invariant.len ∙ sym (ap length spots));
      are_bases = subst₂ (λ ss bs. AreBases c.args.cells.now ss (base_of bs c.loop-spot.base) c.loop-spot.base) (sym spots) (sym bases) c.loop-spot.invariant.are_bases;
      few = ap (λ n. n + c.loop-spot.base) (ap length spots) ∙ e.1;
    }
