use Rattle.vlog_ties.specs.Ties.{modules_in}
use Rattle.vlog_values.specs.Values.{IsModule}
use Rattle.vlog_checked.proofs.LookLaws.{looked_begun, looked_done, looked_more}
use Rattle.vlog_checked.proofs.TableLaws.{all_at, once_at, small_at}
use Rattle.vlog_checked.proofs.looks.looks_at.Goals as goal

pub look_at-requires-clause-once : goal.look_at-requires-clause-once
look_at-requires-clause-once c = once_at c.args.modules.now c.loop-m.m-index c.m-item.result c.loop-m-test.true c.m-item.is c.requires.kept.once

pub look_at-requires-clause-valid : goal.look_at-requires-clause-valid
look_at-requires-clause-valid c = all_at IsModule c.args.modules.now c.loop-m.m-index c.m-item.result c.loop-m-test.true c.m-item.is c.requires.kept.valid

pub look_at-requires-clause-small : goal.look_at-requires-clause-small
look_at-requires-clause-small c = small_at c.args.modules.now c.loop-m.m-index c.m-item.result c.loop-m-test.true c.m-item.is c.requires.kept.small

pub loop-m-init : goal.loop-m-init
loop-m-init c = looked_begun (modules_in c.args.shown.now) c.args.modules.now

pub loop-m-preserved : goal.loop-m-preserved
loop-m-preserved c =
    looked_more (modules_in c.args.shown.now) c.args.modules.now c.loop-m.m-index c.m-item.result c.m-item.is c.loop-m-test.true c.loop-m.look c.in_ok-next.next c.joined-look.result
    c.loop-m.invariant c.in_ok-next.ensures c.joined-look.ensures.free c.joined-look.ensures.declared c.joined-look.ensures.most c.joined-look.ensures.bits

pub returns : goal.returns
returns c = looked_done (modules_in c.args.shown.now) c.args.modules.now c.loop-m.m-index c.loop-m.look c.loop-m-test.false c.loop-m.invariant
