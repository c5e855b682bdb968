use Rattle.std.proofs.Common.{◌≡◌, ◌<◌, false, length, get_or, slice_get, Some, sym, ◌∙◌, arith}
use Rattle.std.proofs.lemmas.List.{get_or_read}
use Rattle.std.proofs.lemmas.Option.{slice_get-get_or}
use Rattle.net_graph.specs.Graph.{HasList}
use Rattle.net_graph.specs.Marks.{is_marked}
use Rattle.net_graph.proofs.Closing.{search_found, search_more, search_none}
use Rattle.net_graph.proofs.recursion.closing_place.Goals as goal

pub mark_reached-requires-clause-within : goal.mark_reached-requires-clause-within
mark_reached-requires-clause-within c =
    let has_list : HasList c.args.graph.now c.args.number c.numbers_below-numbers.result.now = c.numbers_below-numbers.ensures in
    c.requires.in_range c.args.number (get_or c.numbers_below-numbers.result.now c.loop-place.place 0)
    (record { numbers = c.numbers_below-numbers.result.now; are_below = has_list; place = c.loop-place.place; is_there = slice_get-get_or c.numbers_below-numbers.result.now c.loop-place.place 0 c.loop-place-test.true })

pub returns-then-index : goal.returns-then-index
returns-then-index c =
    let has_list : HasList c.args.graph.now c.args.number c.numbers_below-numbers.result.now = c.numbers_below-numbers.ensures in
    let there : slice_get c.numbers_below-numbers.result.now c.loop-place.place ≡ Some (get_or c.numbers_below-numbers.result.now c.loop-place.place 0) = slice_get-get_or c.numbers_below-numbers.result.now c.loop-place.place 0 c.loop-place-test.true in
    let fits : c.args.number < length c.mark_reached.new.marks.items = omega (arith, c.mark_reached.new.marks.ok.0, c.in_ok-mark_reached.ensures.long, c.requires.within) in
    let read : c.index.result.now ≡ is_marked c.mark_reached.new.marks.items c.args.number = get_or_read c.mark_reached.new.marks.items _ _ fits c.index.ensures false in
    search_found c.args.graph.now c.args.number c.numbers_below-numbers.result.now c.loop-place.place _ c.loop-place.marks.items c.mark_reached.new.marks.items has_list c.loop-place.invariant there c.in_ok-mark_reached.ensures.marks (sym read ∙ c.if-index.true)

pub loop-place-preserved : goal.loop-place-preserved
loop-place-preserved c =
    let there : slice_get c.numbers_below-numbers.result.now c.loop-place.place ≡ Some (get_or c.numbers_below-numbers.result.now c.loop-place.place 0) = slice_get-get_or c.numbers_below-numbers.result.now c.loop-place.place 0 c.loop-place-test.true in
    let long : length c.mark_reached.new.marks.items ≡ length c.args.graph.now = omega (arith, c.mark_reached.new.marks.ok.0, c.in_ok-mark_reached.ensures.long) in
    let fits : c.args.number < length c.mark_reached.new.marks.items = omega (arith, long, c.requires.within) in
    let read : c.index.result.now ≡ is_marked c.mark_reached.new.marks.items c.args.number = get_or_read c.mark_reached.new.marks.items _ _ fits c.index.ensures false in
    search_more c.args.graph.now c.args.number c.numbers_below-numbers.result.now c.loop-place.place _ c.loop-place.marks.items c.mark_reached.new.marks.items c.loop-place.invariant there long c.in_ok-mark_reached.ensures.closed c.in_ok-mark_reached.ensures.marks (sym read ∙ c.if-index.false)

pub returns : goal.returns
returns c =
    let has_list : HasList c.args.graph.now c.args.number c.numbers_below-numbers.result.now = c.numbers_below-numbers.ensures in
    search_none c.args.graph.now c.args.number c.numbers_below-numbers.result.now c.loop-place.place c.loop-place.marks.items has_list c.loop-place.invariant (omega (arith, c.loop-place-test.false))
