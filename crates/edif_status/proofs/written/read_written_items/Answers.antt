use Rattle.std.proofs.Common.{arith}
use Rattle.edif_keywords.proofs.Collected.{item_lists}
use Rattle.edif_status.specs.Grammar.{written_rest, written_part}
use Rattle.edif_status.proofs.written.read_written_items.Goals as goal

-- src/written.rt:107:5
pub loop-items-init : goal.loop-items-init
unfolding written_rest written_part
loop-items-init g c = grind (arith, item_lists)

-- src/written.rt:107:11
pub returns-in_err-at_form-clause-reads : goal.returns-in_err-at_form-clause-reads
unfolding written_rest written_part
returns-in_err-at_form-clause-reads g c = grind (arith, item_lists)

-- src/written.rt:108:20
pub returns-in_err-item-clause-reads : goal.returns-in_err-item-clause-reads
unfolding written_rest written_part
returns-in_err-item-clause-reads g c = grind (arith, item_lists)

-- src/written.rt:107:5
pub loop-items-smaller : goal.loop-items-smaller
unfolding written_rest written_part
loop-items-smaller g c = grind (arith, item_lists)

-- src/written.rt:107:5
pub loop-items-preserved : goal.loop-items-preserved
unfolding written_rest written_part
loop-items-preserved g c = grind (arith, item_lists)

-- src/written.rt:109:9
pub returns-in_err-add-clause-reads : goal.returns-in_err-add-clause-reads
unfolding written_rest written_part
returns-in_err-add-clause-reads g c = grind (arith, item_lists)

-- src/written.rt:111:5
pub returns-in_err-finish_form-clause-reads : goal.returns-in_err-finish_form-clause-reads
unfolding written_rest written_part
returns-in_err-finish_form-clause-reads g c = grind (arith, item_lists)

-- src/written.rt:98:1
pub returns-clause-reads : goal.returns-clause-reads
unfolding written_rest written_part
returns-clause-reads g c = grind (arith, item_lists)
