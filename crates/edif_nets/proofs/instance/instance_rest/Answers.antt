use Rattle.std.proofs.Common.{arith}
use Rattle.edif_keywords.proofs.Collected.{item_lists}
use Rattle.edif_nets.specs.Grammar.{instance_rest}
use Rattle.edif_nets.proofs.instance.instance_rest.Goals as goal

pub loop-items-init : goal.loop-items-init
unfolding instance_rest
loop-items-init g c = grind (arith, item_lists)

pub returns-in_err-at_form-clause-reads : goal.returns-in_err-at_form-clause-reads
unfolding instance_rest
returns-in_err-at_form-clause-reads g c = grind (arith, item_lists)

pub returns-in_err-item-clause-reads : goal.returns-in_err-item-clause-reads
unfolding instance_rest
returns-in_err-item-clause-reads g c = grind (arith, item_lists)

pub loop-items-smaller : goal.loop-items-smaller
unfolding instance_rest
loop-items-smaller g c = grind (arith, item_lists)

pub loop-items-preserved : goal.loop-items-preserved
unfolding instance_rest
loop-items-preserved g c = grind (arith, item_lists)

pub returns-in_err-add-clause-reads : goal.returns-in_err-add-clause-reads
unfolding instance_rest
returns-in_err-add-clause-reads g c = grind (arith, item_lists)

pub returns-in_err-finish_form-clause-reads : goal.returns-in_err-finish_form-clause-reads
unfolding instance_rest
returns-in_err-finish_form-clause-reads g c = grind (arith, item_lists)

pub returns-clause-reads : goal.returns-clause-reads
unfolding instance_rest
returns-clause-reads g c = grind (arith, item_lists)
