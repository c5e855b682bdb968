use Rattle.std.proofs.Common.{subst, sym}
use Rattle.net_flatten_rules.proofs.JoinedLaws.{WayGrown, way_begins, way_done, way_less, way_more}
use Rattle.net_flatten_rules.proofs.joined.way_up.Goals as goal

pub loop-at-init : goal.loop-at-init
loop-at-init c = subst (WayGrown c.args.spots.now c.args.spot c.args.spot) (sym c.new-way.ensures.items) (way_begins c.args.spots.now c.args.spot c.requires.0 c.requires.1)

pub loop-at-preserved : goal.loop-at-preserved
loop-at-preserved c = subst (WayGrown c.args.spots.now c.args.spot _) (sym c.in_ok-push.ensures.items)
    (way_more c.args.spots.now c.args.spot c.loop-at.at c.loop-at.way.items c.loop-at.invariant c.loop-at-test.true (record { parent = 0; instance = 0; cell = 0 }))

pub loop-at-smaller : goal.loop-at-smaller
loop-at-smaller c = way_less c.args.spots.now c.args.spot c.loop-at.at c.loop-at.way.items c.loop-at.invariant c.loop-at-test.true (record { parent = 0; instance = 0; cell = 0 })

pub returns : goal.returns
returns c = way_done c.args.spots.now c.args.spot c.loop-at.at c.loop-at.way.items c.loop-at.invariant c.loop-at-test.false
