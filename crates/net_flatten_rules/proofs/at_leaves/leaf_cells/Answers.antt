use Rattle.std.proofs.Common.{ap, subst, sym, ◌∙◌, ◌<◌, ◌≡◌, ℕ, false, get_or, length, arith}
use Rattle.std.proofs.lemmas.List.{get_or_default}
use Rattle.std.proofs.lemmas.Option.{slice_get-get_or}
use Rattle.flat_numbers.proofs.Counting.{order_there}
use Rattle.net_flatten_rules.specs.FlatDesign.{stands_at}
use Rattle.net_flatten_rules.proofs.MarkLaws.{one_kept, one_passed, spots_within}
use Rattle.net_flatten_rules.proofs.at_leaves.leaf_cells.Goals as goal
use Rattle.net_flatten_rules.proofs.at_leaves.leaf_cells.Goals.{then-index+in_ok-push, else-index}

pub marks_of-requires-clause-cells : goal.marks_of-requires-clause-cells
marks_of-requires-clause-cells c = λ k d lt. subst (λ cs. (get_or c.args.spots.now k d).cell < length cs) (sym c.cells-cells.ensures.cells) (spots_within c.args.hier.now c.args.spots.now c.requires.spots k d lt)

pub index-requires : goal.index-requires
index-requires c =
    let number : ℕ = get_or c.order-order.result.now c.loop-number.number-index 0 in
    let good = order_there c.args.hier.now c.cells-cells.result.now c.order-order.result.now c.cells-cells.ensures.valid.valid c.cells-cells.ensures.cells c.order-order.ensures.order in
    let lt = good.in_range c.loop-number.number-index number (slice_get-get_or c.order-order.result.now c.loop-number.number-index 0 c.loop-number-test.true) in
    let long = c.in_ok-marks.ensures.long in
    omega (arith, lt, long, c.in_ok-marks.marks.ok)

pub loop-number-preserved : goal.loop-number-preserved
loop-number-preserved c =
    let order = c.order-order.result.now in
    let number : ℕ = get_or order c.loop-number.number-index 0 in
    let marks = c.in_ok-marks.marks.items in
    let good = order_there c.args.hier.now c.cells-cells.result.now order c.cells-cells.ensures.valid.valid c.cells-cells.ensures.cells c.order-order.ensures.order in
    let lt : number < length c.cells-cells.result.now = good.in_range c.loop-number.number-index number (slice_get-get_or order c.loop-number.number-index 0 c.loop-number-test.true) in
    let long : length marks ≡ length c.cells-cells.result.now = c.in_ok-marks.ensures.long in
    let read : stands_at c.args.spots.now c.args.leaves.now number ≡ c.index.result.now =
    sym (c.in_ok-marks.ensures.marks number lt) ∙ (get_or_default marks number false c.index.result.now (omega (arith, lt, long)) ∙ sym c.index.ensures) in
    elim c.if-index.branch [
      | then-index+in_ok-push w ↦ one_kept (stands_at c.args.spots.now c.args.leaves.now) order c.loop-number.number-index c.loop-number.numbers.items c.if-index.numbers.items c.loop-number-test.true c.loop-number.invariant
          (read ∙ w.if-index.true) (ap (λ v. v.items) w.numbers-is ∙ w.in_ok-push.ensures.items)
      | else-index w ↦ one_passed (stands_at c.args.spots.now c.args.leaves.now) order c.loop-number.number-index c.loop-number.numbers.items c.if-index.numbers.items c.loop-number-test.true c.loop-number.invariant
          (read ∙ w.if-index.false) (ap (λ v. v.items) w.numbers-is)
    ]
