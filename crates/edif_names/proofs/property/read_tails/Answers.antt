use Rattle.std.proofs.Common.{arith}
use Rattle.edif_keywords.proofs.Collected.{item_lists}
use Rattle.edif_names.specs.Grammar.{tails, tail_item}
use Rattle.edif_names.proofs.property.read_tails.Goals as goal

-- src/property.rt:54:5
pub loop-tail-init : goal.loop-tail-init
unfolding tails tail_item
loop-tail-init g c = grind (arith, item_lists)

-- src/property.rt:54:11
pub returns-in_err-at_form-clause-reads : goal.returns-in_err-at_form-clause-reads
unfolding tails tail_item
returns-in_err-at_form-clause-reads g c = grind (arith, item_lists)

-- src/property.rt:55:20
pub returns-in_err-item-clause-reads : goal.returns-in_err-item-clause-reads
unfolding tails tail_item
returns-in_err-item-clause-reads g c = grind (arith, item_lists)

-- src/property.rt:54:5
pub loop-tail-smaller : goal.loop-tail-smaller
unfolding tails tail_item
loop-tail-smaller g c = grind (arith, item_lists)

-- src/property.rt:54:5
pub loop-tail-preserved : goal.loop-tail-preserved
unfolding tails tail_item
loop-tail-preserved g c = grind (arith, item_lists)

-- src/property.rt:56:9
pub returns-in_err-add_boxed-clause-reads : goal.returns-in_err-add_boxed-clause-reads
unfolding tails tail_item
returns-in_err-add_boxed-clause-reads g c = grind (arith, item_lists)

-- src/property.rt:58:5
pub returns-in_err-finish_form-clause-reads : goal.returns-in_err-finish_form-clause-reads
unfolding tails tail_item
returns-in_err-finish_form-clause-reads g c = grind (arith, item_lists)

-- src/property.rt:45:1
pub returns-clause-reads : goal.returns-clause-reads
unfolding tails tail_item
returns-clause-reads g c = grind (arith, item_lists)
