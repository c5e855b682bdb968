use Rattle.std.proofs.Common.{arith, ◌≡◌, ◌+◌, ◌<◌, ◌^◌, Some, ap, get_or, length, sym, ◌∙◌}
use Rattle.std.proofs.lemmas.Bool.{false≢true}
use Rattle.std.specs.Prelude.{slice_get}
use Rattle.edif_planning.proofs.ClassLaws.{classes_at, classes_here, item_there}
use Rattle.edif_planning.proofs.ConstantLaws.{constant_at, first_found, none_found, one_passed}
use Rattle.edif_planning.proofs.OrderLaws.{order_there, order_within, place_fits}
use Rattle.edif_planning.proofs.constants.first_place.Goals as goal

pub bounds-all-number : goal.bounds-all-number
bounds-all-number c =
    let within : get_or c.order-order.result.now c.loop-place.place 0 < length c.args.hier.now.cells =
    order_within c.args.hier.now c.order-order.ensures.valid.valid c.loop-place.place _ (order_there c.args.hier.now c.order-order.result.now c.order-order.ensures.order c.loop-place.place 0 c.loop-place-test.true) in
    omega (arith, within, c.requires.as_many)

pub stands-requires-clause-cell : goal.stands-requires-clause-cell
stands-requires-clause-cell c = order_within c.args.hier.now c.order-order.ensures.valid.valid c.loop-place.place _ (order_there c.args.hier.now c.order-order.result.now c.order-order.ensures.order c.loop-place.place 0 c.loop-place-test.true)

pub stands-requires-clause-classes : goal.stands-requires-clause-classes
stands-requires-clause-classes c =
    let within : get_or c.order-order.result.now c.loop-place.place 0 < length c.args.hier.now.cells =
    order_within c.args.hier.now c.order-order.ensures.valid.valid c.loop-place.place _ (order_there c.args.hier.now c.order-order.result.now c.order-order.ensures.order c.loop-place.place 0 c.loop-place-test.true) in
    classes_at c.args.hier.now.cells c.args.all.now c.requires (get_or c.order-order.result.now c.loop-place.place 0) c.index-all-number.result
    (classes_here c.args.all.now (get_or c.order-order.result.now c.loop-place.place 0) c.index-all-number.result c.index-all-number.result (omega (arith, within, c.requires.as_many)) c.index-all-number.is)

pub overflow_cast-result : goal.overflow_cast-result
overflow_cast-result c =
    let h : 0 + c.loop-place.place < 2 ^ 32 = place_fits c.args.hier.now c.order-order.ensures.valid c.order-order.result.now c.order-order.ensures.order 0 c.loop-place.place (omega arith) c.loop-place-test.true in
    omega (arith, h)

pub returns-then-stands : goal.returns-then-stands
returns-then-stands c =
    let here : slice_get c.args.hier.now.order c.loop-place.place ≡ Some (get_or c.order-order.result.now c.loop-place.place 0) = order_there c.args.hier.now c.order-order.result.now c.order-order.ensures.order c.loop-place.place 0 c.loop-place-test.true in
    let cell = item_there c.args.hier.now.cells (get_or c.order-order.result.now c.loop-place.place 0) (order_within c.args.hier.now c.order-order.ensures.valid.valid c.loop-place.place _ here) in
    first_found c.args.constants.now c.args.hier.now c.args.value c.loop-place.place c.loop-place.invariant
    ((constant_at c.args.constants.now c.args.hier.now c.args.value c.loop-place.place _ cell.0 here cell.1).1 ((c.stands.ensures cell.0 cell.1).0 c.if-stands.true))

pub loop-place-preserved : goal.loop-place-preserved
loop-place-preserved c =
    let here : slice_get c.args.hier.now.order c.loop-place.place ≡ Some (get_or c.order-order.result.now c.loop-place.place 0) = order_there c.args.hier.now c.order-order.result.now c.order-order.ensures.order c.loop-place.place 0 c.loop-place-test.true in
    let cell = item_there c.args.hier.now.cells (get_or c.order-order.result.now c.loop-place.place 0) (order_within c.args.hier.now c.order-order.ensures.valid.valid c.loop-place.place _ here) in
    one_passed c.args.constants.now c.args.hier.now c.args.value c.loop-place.place c.loop-place.invariant
    (λ at. false≢true (sym c.if-stands.false ∙ (c.stands.ensures cell.0 cell.1).1 ((constant_at c.args.constants.now c.args.hier.now c.args.value c.loop-place.place _ cell.0 here cell.1).0 at)))

pub returns : goal.returns
returns c =
    let same = ap length c.order-order.ensures.order in
    none_found c.args.constants.now c.args.hier.now c.args.value c.loop-place.place (omega (arith, c.loop-place-test.false, same)) c.loop-place.invariant
