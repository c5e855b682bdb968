use Rattle.std.proofs.Common.{◌≡◌, ◌<◌, arith, subst, subst₂, sym, ◌∙◌, slice_get, Some, get_or, length}
use Rattle.std.proofs.lemmas.Option.{slice_get-get_or, get_or_from_slice_get}
use Rattle.flat_numbers.specs.FlatCounts.{IsCountOf, IsFlatCountOf}
use Rattle.flat_numbers.proofs.Counting.{count_below, count_set, counts_whole, number_there, order_there}
use Rattle.flat_numbers.proofs.counts.flat_count.Goals as goal

pub count_of-count-requires-clause-in_range : goal.count_of-count-requires-clause-in_range
count_of-count-requires-clause-in_range c =
    let good = order_there c.args.hier.now c.cells-cells.result.now c.order-number-items.result.now c.cells-cells.ensures.valid.valid c.cells-cells.ensures.cells c.order-number-items.ensures.order in
    number_there c.cells-cells.result.now c.args.hier.now.top c.order-number-items.result.now good c.loop-number.number-index c.loop-number.counts.items c.loop-number.invariant
    (get_or c.order-number-items.result.now c.loop-number.number-index 0) (slice_get-get_or c.order-number-items.result.now c.loop-number.number-index 0 c.loop-number-test.true)

pub count_of-count-requires-clause-below : goal.count_of-count-requires-clause-below
count_of-count-requires-clause-below c = λ cell place instance is there.
    let good = order_there c.args.hier.now c.cells-cells.result.now c.order-number-items.result.now c.cells-cells.ensures.valid.valid c.cells-cells.ensures.cells c.order-number-items.ensures.order in
    subst (λ cs. IsCountOf c.cells-cells.result.now cs instance.cell) (sym c.deref.ensures.value)
    (count_below c.cells-cells.result.now c.args.hier.now.top c.order-number-items.result.now good c.loop-number.number-index c.loop-number.counts.items c.loop-number.invariant
    (get_or c.order-number-items.result.now c.loop-number.number-index 0) (slice_get-get_or c.order-number-items.result.now c.loop-number.number-index 0 c.loop-number-test.true) cell place instance is there)

pub index_mut-requires : goal.index_mut-requires
index_mut-requires c =
    let good = order_there c.args.hier.now c.cells-cells.result.now c.order-number-items.result.now c.cells-cells.ensures.valid.valid c.cells-cells.ensures.cells c.order-number-items.ensures.order in
    let lt : get_or c.order-number-items.result.now c.loop-number.number-index 0 < length c.cells-cells.result.now =
    number_there c.cells-cells.result.now c.args.hier.now.top c.order-number-items.result.now good c.loop-number.number-index c.loop-number.counts.items c.loop-number.invariant
    (get_or c.order-number-items.result.now c.loop-number.number-index 0) (slice_get-get_or c.order-number-items.result.now c.loop-number.number-index 0 c.loop-number-test.true) in
    let len : length c.loop-number.counts.items ≡ length c.cells-cells.result.now = c.loop-number.invariant.len in
    omega (arith, lt, len, c.loop-number.counts.ok)

pub loop-number-preserved : goal.loop-number-preserved
loop-number-preserved c =
    let good = order_there c.args.hier.now c.cells-cells.result.now c.order-number-items.result.now c.cells-cells.ensures.valid.valid c.cells-cells.ensures.cells c.order-number-items.ensures.order in
    count_set c.cells-cells.result.now c.args.hier.now.top c.order-number-items.result.now good c.loop-number.number-index c.loop-number.counts.items c.loop-number.invariant
    (get_or c.order-number-items.result.now c.loop-number.number-index 0) c.count_of-count.result (slice_get-get_or c.order-number-items.result.now c.loop-number.number-index 0 c.loop-number-test.true) c.count_of-count.ensures

pub returns : goal.returns
returns c =
    let good = order_there c.args.hier.now c.cells-cells.result.now c.order-number-items.result.now c.cells-cells.ensures.valid.valid c.cells-cells.ensures.cells c.order-number-items.ensures.order in
    let known : IsCountOf c.cells-cells.result.now c.loop-number.counts.items c.args.hier.now.top =
    counts_whole c.cells-cells.result.now c.args.hier.now.top c.order-number-items.result.now c.loop-number.number-index c.loop-number.counts.items good c.loop-number-test.false c.loop-number.invariant in
    let there : slice_get c.loop-number.counts.items c.top.result ≡ Some known.count = subst (λ n. slice_get c.loop-number.counts.items n ≡ Some known.count) (sym c.top.ensures.top) known.is_there in
    let read : c.index.result.now ≡ known.count = c.index.ensures ∙ get_or_from_slice_get c.loop-number.counts.items c.top.result known.count c.index.result.now there in
    subst₂ (λ cs n. IsFlatCountOf cs c.args.hier.now.top n) c.cells-cells.ensures.cells (sym read) known.is_count
