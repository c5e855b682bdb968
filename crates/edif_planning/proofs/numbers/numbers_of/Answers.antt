use Rattle.std.proofs.Common.{arith, ap, refl, ◌<◌, ◌+◌, ◌^◌, get_or, length}
use Rattle.edif_planning.proofs.NumberLaws.{all_numbered, one_numbered}
use Rattle.edif_planning.proofs.OrderLaws.{order_there, order_within, place_fits}
use Rattle.edif_planning.proofs.numbers.numbers_of.Goals as goal

pub overflow_cast-place : goal.overflow_cast-place
overflow_cast-place c =
    let h : c.args.count + c.loop-place.place < 2 ^ 32 = place_fits c.args.hier.now c.order-order.ensures.valid c.order-order.result.now c.order-order.ensures.order c.args.count c.loop-place.place c.requires c.loop-place-test.true in
    omega (arith, h)

pub overflow_add-count : goal.overflow_add-count
overflow_add-count c =
    let h : c.args.count + c.loop-place.place < 2 ^ 32 = place_fits c.args.hier.now c.order-order.ensures.valid c.order-order.result.now c.order-order.ensures.order c.args.count c.loop-place.place c.requires c.loop-place-test.true in
    omega (arith, h)

pub index_mut-requires : goal.index_mut-requires
index_mut-requires c =
    let within : get_or c.order-order.result.now c.loop-place.place 0 < length c.args.hier.now.cells =
    order_within c.args.hier.now c.order-order.ensures.valid.valid c.loop-place.place _ (order_there c.args.hier.now c.order-order.result.now c.order-order.ensures.order c.loop-place.place 0 c.loop-place-test.true) in
    omega (arith, within, c.loop-place.invariant.as_many)

pub loop-place-preserved : goal.loop-place-preserved
loop-place-preserved c =
    one_numbered c.args.hier.now c.order-order.ensures.valid.valid c.args.count c.loop-place.place (get_or c.order-order.result.now c.loop-place.place 0) c.loop-place.numbers.items _
    (order_there c.args.hier.now c.order-order.result.now c.order-order.ensures.order c.loop-place.place 0 c.loop-place-test.true) refl c.loop-place.invariant

pub returns : goal.returns
returns c =
    let same = ap length c.order-order.ensures.order in
    all_numbered c.args.hier.now c.args.count c.loop-place.place c.loop-place.numbers.items (omega (arith, c.loop-place-test.false, same)) c.loop-place.invariant
