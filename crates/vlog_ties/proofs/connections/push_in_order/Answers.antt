use Rattle.vlog_design.proofs.Steps.{done, moved}
use Rattle.vlog_ties.proofs.Connected.{order_done, order_step}
use Rattle.vlog_ties.proofs.connections.push_in_order.Goals as goal

pub loop-place-preserved : goal.loop-place-preserved
loop-place-preserved c = rw c.in_ok-push_by_place.ensures.added
    (moved _ _ _ c.loop-place.invariant (order_step c.args.instance.now c.args.number c.args.table.now c.args.values.now c.loop-place.place c.index-values-place.result c.index-values-place.is c.loop-place-test.true))

pub returns : goal.returns
returns c = record { added = done _ c.loop-place.invariant (order_done c.args.instance.now c.args.number c.args.table.now c.args.values.now c.loop-place.place c.loop-place-test.false) }
