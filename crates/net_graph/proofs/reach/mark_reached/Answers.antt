use Rattle.std.proofs.Common.{◌≡◌, ◌<◌, [], length, get_or, sym, subst, arith}
use Rattle.std.proofs.lemmas.Option.{get_or_from_slice_get}
use Rattle.net_graph.specs.WorkList.{IsUnderWay}
use Rattle.net_graph.proofs.WorkLaws.{all_closed, no_items, work_bound, work_fits, work_marks, work_smaller, work_start, work_turn}
use Rattle.net_graph.proofs.reach.mark_reached.Goals as goal

pub loop-number-init : goal.loop-number-init
loop-number-init c =
    let long : length c.args.marks.now.items ≡ length c.args.graph.now = omega (arith, c.args.marks.now.ok.0, c.requires.long) in
    work_start c.args.graph.now c.args.marks.now.items c.args.start c.new-waiting.result.items c.mark.new.marks.items c.mark.new.waiting.items long c.requires.closed c.requires.within c.new-waiting.ensures.items c.in_ok-mark.ensures.known c.in_ok-mark.ensures.unknown

pub numbers_below-requires : goal.numbers_below-requires
numbers_below-requires c = work_bound _ _ _ _ _ _ _ c.loop-number.invariant c.in-Some.ensures.items

pub mark_numbers-requires : goal.mark_numbers-requires
mark_numbers-requires c k d h =
    let r : get_or c.numbers_below.result.now k d < length c.loop-number.marks.items =
    work_fits c.args.graph.now c.args.marks.now.items c.args.start c.loop-number.marks.items c.loop-number.waiting.items c.loop-number.invariant c.requires.in_range c.in-Some.number c.numbers_below.result.now
    (sym (get_or_from_slice_get c.args.graph.now c.in-Some.number c.numbers_below.result.now [] c.numbers_below.ensures)) k d h in
    omega (arith, r, c.loop-number.marks.ok.0)

pub loop-number-smaller : goal.loop-number-smaller
loop-number-smaller c =
    work_smaller c.loop-number.marks.items c.mark_numbers.new.marks.items c.loop-number.waiting.items c.pop.new.self.items c.mark_numbers.new.waiting.items c.numbers_below.result.now c.in-Some.number c.in-Some.ensures.items c.in_ok-mark_numbers.ensures

pub loop-number-preserved : goal.loop-number-preserved
loop-number-preserved c =
    work_turn c.args.graph.now c.args.marks.now.items c.args.start c.loop-number.marks.items c.mark_numbers.new.marks.items c.loop-number.waiting.items c.pop.new.self.items c.mark_numbers.new.waiting.items c.numbers_below.result.now c.in-Some.number c.loop-number.invariant c.in-Some.ensures.items
    (sym (get_or_from_slice_get c.args.graph.now c.in-Some.number c.numbers_below.result.now [] c.numbers_below.ensures)) c.in_ok-mark_numbers.ensures

pub returns-clause-closed : goal.returns-clause-closed
returns-clause-closed c =
    let none : c.loop-number.waiting.items ≡ [] = no_items c.loop-number.waiting.items (omega (arith, c.in_default.ensures.cases, c.loop-number.waiting.ok.0)) in
    all_closed c.args.graph.now c.args.marks.now.items c.args.start c.loop-number.marks.items (subst (λ ws. IsUnderWay c.args.graph.now c.args.marks.now.items c.args.start c.loop-number.marks.items ws) none c.loop-number.invariant)

pub returns-clause-marks : goal.returns-clause-marks
returns-clause-marks c =
    let none : c.loop-number.waiting.items ≡ [] = no_items c.loop-number.waiting.items (omega (arith, c.in_default.ensures.cases, c.loop-number.waiting.ok.0)) in
    work_marks c.args.graph.now c.args.marks.now.items c.args.start c.loop-number.marks.items (subst (λ ws. IsUnderWay c.args.graph.now c.args.marks.now.items c.args.start c.loop-number.marks.items ws) none c.loop-number.invariant)
