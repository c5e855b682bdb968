use Rattle.std.proofs.Common.{◌≡◌, ◌∙◌, ap, arith, filter, get_or, length}
use Rattle.std.specs.List.{range_with_len}
use Rattle.flat_classes.specs.Groups.{group_at}
use Rattle.net_lint.specs.Groups.{same_finding}
use Rattle.net_lint.specs.declared.findings.Finding.TheVariants.{Driven}
use Rattle.net_lint.proofs.Loops.{finding_read, kept_added, kept_passed}
use Rattle.net_lint.proofs.findings.places_found.Goals as goal
use Rattle.net_lint.proofs.findings.places_found.Goals.{then-same_finding+in_ok-push, else-same_finding}

pub overflow_cast-place : goal.overflow_cast-place
overflow_cast-place c =
    let many = ap length c.terminals-place-end.ensures in
    omega (arith, c.loop-place-test.true, many, c.requires.numbers.few)

pub bounds-findings-group : goal.bounds-findings-group
bounds-findings-group c =
    let many = ap length c.terminals-place-end.ensures in
    let group : c.group.result ≡ group_at c.args.flat.now.groups c.loop-place.place = c.group.ensures in
    let within = c.requires.numbers.in_order.within c.loop-place.place (omega (arith, c.loop-place-test.true, many, c.requires.numbers.len)) in
    omega (arith, group, within, c.requires.groups)

pub loop-place-preserved : goal.loop-place-preserved
loop-place-preserved c =
    let many = ap length c.terminals-place-end.ensures in
    let group : c.group.result ≡ group_at c.args.flat.now.groups c.loop-place.place = c.group.ensures in
    let within = c.requires.numbers.in_order.within c.loop-place.place (omega (arith, c.loop-place-test.true, many, c.requires.numbers.len)) in
    let says = finding_read c.args.findings.now c.args.flat.now.groups c.loop-place.place c.group.result c.args.finding _ c.same_finding.result group (omega (arith, group, within, c.requires.groups)) c.same_finding.ensures in
    elim c.if-same_finding.branch [
      | then-same_finding+in_ok-push w ↦ kept_added (λ place. same_finding c.args.finding (get_or c.args.findings.now (group_at c.args.flat.now.groups place) Driven)) c.loop-place.place c.same_finding.result c.loop-place.places.items c.if-same_finding.places.items says w.if-same_finding.true (ap (λ v. v.items) w.places-is ∙ w.in_ok-push.ensures.items) c.loop-place.invariant
      | else-same_finding w ↦ kept_passed (λ place. same_finding c.args.finding (get_or c.args.findings.now (group_at c.args.flat.now.groups place) Driven)) c.loop-place.place c.same_finding.result c.loop-place.places.items c.if-same_finding.places.items says w.if-same_finding.false (ap (λ v. v.items) w.places-is) c.loop-place.invariant
    ]

pub returns : goal.returns
returns c =
    let many = ap length c.terminals-place-end.ensures in
    let whole : c.loop-place.place ≡ length c.args.flat.now.groups = omega (arith, c.loop-place-test.false, c.loop-place.auto.place-end, many, c.requires.numbers.len) in
    c.shrink_to_fit.ensures.items ∙ c.loop-place.invariant ∙ ap (λ n. filter (λ place. same_finding c.args.finding (get_or c.args.findings.now (group_at c.args.flat.now.groups place) Driven)) (range_with_len 0 n)) whole
