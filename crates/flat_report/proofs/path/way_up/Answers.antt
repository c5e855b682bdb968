use Rattle.std.proofs.Common.{◌<◌, length, arith}
use Rattle.flat_classes.proofs.WayLaws.{way_counted, way_done, way_has_room, way_more}
use Rattle.flat_report.proofs.path.way_up.Goals as goal

pub loop-at-preserved : goal.loop-at-preserved
loop-at-preserved c = λ way is.
    let known = c.loop-at.invariant c.requires.0 c.requires.1 in
    let lt : c.loop-at.count < length c.loop-at.room = way_has_room c.args.spots.now c.loop-at.at c.loop-at.count c.loop-at.room c.requires.0 known c.loop-at-test.true (omega (arith, c.requires.2, c.loop-at.auto.room)) in
    way_more c.args.spots.now c.loop-at.at c.loop-at.count c.loop-at.room way (record { parent = 0; instance = 0; cell = 0 }) (c.loop-at.invariant way is) c.loop-at-test.true lt

pub returns-clause-count : goal.returns-clause-count
returns-clause-count c = λ way is. way_counted c.args.spots.now c.loop-at.at c.loop-at.count c.loop-at.room way (c.loop-at.invariant way is) c.loop-at-test.false

pub returns-clause-way : goal.returns-clause-way
returns-clause-way c = λ way is. way_done c.args.spots.now c.loop-at.at c.loop-at.count c.loop-at.room way (c.loop-at.invariant way is) c.loop-at-test.false
