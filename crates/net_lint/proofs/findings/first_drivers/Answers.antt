use Rattle.std.proofs.Common.{◌≡◌, ◌∙◌, ap, arith, filter, length}
use Rattle.std.specs.List.{range_with_len}
use Rattle.flat_classes.specs.Groups.{group_at}
use Rattle.net_lint.specs.Groups.{drivers_at, is_first}
use Rattle.net_lint.proofs.Loops.{kept_added, kept_passed, row_read}
use Rattle.net_lint.proofs.findings.first_drivers.Goals as goal
use Rattle.net_lint.proofs.findings.first_drivers.Goals.{then-is_first+in_ok-push, else-is_first}

pub overflow_cast-place : goal.overflow_cast-place
overflow_cast-place c =
    let many = ap length c.terminals-place-end.ensures in
    omega (arith, c.loop-place-test.true, many, c.requires.numbers.few)

pub of-requires : goal.of-requires
of-requires c =
    let many = ap length c.terminals-place-end.ensures in
    let group : c.group.result ≡ group_at c.args.flat.now.groups c.loop-place.place = c.group.ensures in
    let within = c.requires.numbers.in_order.within c.loop-place.place (omega (arith, c.loop-place-test.true, many, c.requires.numbers.len)) in
    omega (arith, group, within, c.requires.groups)

pub loop-place-preserved : goal.loop-place-preserved
loop-place-preserved c =
    let group : c.group.result ≡ group_at c.args.flat.now.groups c.loop-place.place = c.group.ensures in
    let read = row_read c.args.drivers.now c.args.flat.now.groups c.loop-place.place c.group.result c.of.result.now group c.of.ensures in
    let says = c.is_first.ensures ∙ ap (λ list. is_first list c.loop-place.place) read in
    elim c.if-is_first.branch [
      | then-is_first+in_ok-push w ↦ kept_added (λ place. is_first (drivers_at c.args.flat.now.groups c.args.drivers.now place) place) c.loop-place.place c.is_first.result c.loop-place.firsts.items c.if-is_first.firsts.items says w.if-is_first.true (ap (λ v. v.items) w.firsts-is ∙ w.in_ok-push.ensures.items) c.loop-place.invariant
      | else-is_first w ↦ kept_passed (λ place. is_first (drivers_at c.args.flat.now.groups c.args.drivers.now place) place) c.loop-place.place c.is_first.result c.loop-place.firsts.items c.if-is_first.firsts.items says w.if-is_first.false (ap (λ v. v.items) w.firsts-is) c.loop-place.invariant
    ]

pub returns : goal.returns
returns c =
    let many = ap length c.terminals-place-end.ensures in
    let whole : c.loop-place.place ≡ length c.args.flat.now.groups = omega (arith, c.loop-place-test.false, c.loop-place.auto.place-end, many, c.requires.numbers.len) in
    c.shrink_to_fit.ensures.items ∙ c.loop-place.invariant ∙ ap (λ n. filter (λ place. is_first (drivers_at c.args.flat.now.groups c.args.drivers.now place) place) (range_with_len 0 n)) whole
