use Rattle.std.proofs.Common.{arith}
use Rattle.vlog_design.proofs.Steps.{done, moved}
use Rattle.vlog_ties.specs.Ties.{modules_in}
use Rattle.vlog_ties.proofs.Places.{instances_left, items_done, items_step}
use Rattle.vlog_ties.proofs.ties.push_items.Goals as goal

pub push_item_ties-requires-clause-few : goal.push_item_ties-requires-clause-few
push_item_ties-requires-clause-few c = omega (arith, c.loop-item.invariant.few, instances_left c.args.items.now c.loop-item.item-index c.item-item.result c.item-item.is c.loop-item-test.true)

pub returns : goal.returns
returns c = record { added = done _ c.loop-item.invariant.added (items_done (modules_in c.args.scopes.now) c.loop-item.number c.args.items.now c.loop-item.item-index c.loop-item-test.false) }

pub loop-item-preserved : goal.loop-item-preserved
loop-item-preserved c =
    let number = c.loop-item.number in
    let left = instances_left c.args.items.now c.loop-item.item-index c.item-item.result c.item-item.is c.loop-item-test.true in
    record {
      few = omega (arith, c.loop-item.invariant.few, left, c.instance_count-number.ensures);
      added = rw (c.in_ok-push_item_ties.ensures.added, c.instance_count-number.ensures)
          (moved _ _ _ c.loop-item.invariant.added (items_step (modules_in c.args.scopes.now) number c.args.items.now c.loop-item.item-index c.item-item.result c.item-item.is c.loop-item-test.true));
    }
