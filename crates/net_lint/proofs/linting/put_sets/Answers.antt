use Rattle.std.proofs.Common.{◌≡◌, ◌<◌, ◌+◌, ℕ, drop, get_or, length, subst}
use Rattle.std.proofs.lemmas.List.{drop_all}
use Rattle.nl_output.specs.Writing.{state, ToCome}
use Rattle.flat_classes.specs.Groups.{group_at}
use Rattle.flat_report.specs.Report.{nets_then}
use Rattle.net_lint.specs.Groups.{drivers_at, sets_of}
use Rattle.net_lint.proofs.Loops.{row_read, sets_next}
use Rattle.net_lint.proofs.linting.put_sets.Goals as goal

pub loop-first-preserved : goal.loop-first-preserved
loop-first-preserved g c = λ paths of b rest h.
    let lists = c.args.drivers.now in
    let first : ℕ = get_or c.args.firsts.now c.loop-first.first-index 0 in
    let lt : first < length c.args.flat.now.terminals = c.requires.firsts c.loop-first.first-index 0 c.loop-first-test.true in
    let group : c.group.result ≡ group_at c.args.flat.now.groups first = c.group.ensures in
    let set : c.of-set.result.now ≡ drivers_at c.args.flat.now.groups lists first = row_read lists c.args.flat.now.groups first c.group.result c.of-set.result.now group c.of-set.ensures in
    let text = sets_next c.args.hier.now.cells c.args.flat.now.spots paths c.args.flat.now.terminals c.args.flat.now.groups lists c.args.firsts.now c.loop-first.first-index c.of-set.result.now rest c.loop-first-test.true set in
    c.put_net.ensures paths of b (nets_then c.args.hier.now.cells c.args.flat.now.spots paths c.args.flat.now.terminals (sets_of c.args.flat.now.groups lists (drop (c.loop-first.first-index + 1) c.args.firsts.now)) rest)
    (subst (ToCome b (state g.O.Sink.receipt c.loop-first.sink c.loop-first.output)) text (c.loop-first.invariant paths of b rest h))

pub returns : goal.returns
returns g c = λ paths of b rest h.
    subst (λ fs. ToCome b (state g.O.Sink.receipt c.loop-first.sink c.loop-first.output) (nets_then c.args.hier.now.cells c.args.flat.now.spots paths c.args.flat.now.terminals (sets_of c.args.flat.now.groups c.args.drivers.now fs) rest))
    (drop_all c.loop-first.first-index c.args.firsts.now c.loop-first-test.false) (c.loop-first.invariant paths of b rest h)
