use Rattle.std.proofs.Common.{arith}
use Rattle.vlog_values.specs.Values.{IsItem}
use Rattle.vlog_values.specs.Sizes.{item_size}
use Rattle.vlog_items.proofs.Lists.{none_are, none_size, room_added, all_added, size_added, collects}
use Rattle.vlog_modules.proofs.Items.{item_loops}
use Rattle.vlog_modules.proofs.module.read_items.Goals as goal

pub loop-items-init : goal.loop-items-init
loop-items-init g c = collects (grind (arith, item_loops)) (none_are IsItem c.empty-items.ensures) (omega (arith, none_size item_size c.empty-items.ensures))

pub loop-items-preserved : goal.loop-items-preserved
loop-items-preserved g c =
    collects (grind (arith, item_loops)) (all_added c.in_ok-add.ensures IsItem c.loop-items.invariant.good c.in_ok-item.ensures.value)
    (omega (arith, size_added c.in_ok-add.ensures item_size, room_added c.in_ok-add.ensures, c.in_ok-at_item.ensures.value.1, c.in_ok-item.ensures.size))
