use Rattle.std.proofs.Common.{arith}
use Rattle.edif_keywords.proofs.Collected.{item_lists}
use Rattle.edif_status.specs.Grammar.{status_rest, status_part}
use Rattle.edif_status.proofs.status.read_status_items.Goals as goal

-- src/status.rt:51:5
pub loop-items-init : goal.loop-items-init
unfolding status_rest status_part
loop-items-init g c = grind (arith, item_lists)

-- src/status.rt:51:11
pub returns-in_err-at_form-clause-reads : goal.returns-in_err-at_form-clause-reads
unfolding status_rest status_part
returns-in_err-at_form-clause-reads g c = grind (arith, item_lists)

-- src/status.rt:52:20
pub returns-in_err-item-clause-reads : goal.returns-in_err-item-clause-reads
unfolding status_rest status_part
returns-in_err-item-clause-reads g c = grind (arith, item_lists)

-- src/status.rt:51:5
pub loop-items-smaller : goal.loop-items-smaller
unfolding status_rest status_part
loop-items-smaller g c = grind (arith, item_lists)

-- src/status.rt:51:5
pub loop-items-preserved : goal.loop-items-preserved
unfolding status_rest status_part
loop-items-preserved g c = grind (arith, item_lists)

-- src/status.rt:53:9
pub returns-in_err-add-clause-reads : goal.returns-in_err-add-clause-reads
unfolding status_rest status_part
returns-in_err-add-clause-reads g c = grind (arith, item_lists)

-- src/status.rt:55:5
pub returns-in_err-finish_form-clause-reads : goal.returns-in_err-finish_form-clause-reads
unfolding status_rest status_part
returns-in_err-finish_form-clause-reads g c = grind (arith, item_lists)

-- src/status.rt:42:1
pub returns-clause-reads : goal.returns-clause-reads
unfolding status_rest status_part
returns-clause-reads g c = grind (arith, item_lists)
