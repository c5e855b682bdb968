use Rattle.std.proofs.Common.{arith}
use Rattle.edif_keywords.proofs.Collected.{item_lists}
use Rattle.edif_nets.specs.Grammar.{net_rest}
use Rattle.edif_nets.proofs.net.net_rest.Goals as goal

pub loop-items-init : goal.loop-items-init
unfolding net_rest
loop-items-init g c = grind (arith, item_lists)

pub returns-in_err-at_form-clause-reads : goal.returns-in_err-at_form-clause-reads
unfolding net_rest
returns-in_err-at_form-clause-reads g c = grind (arith, item_lists)

pub returns-in_err-item-clause-reads : goal.returns-in_err-item-clause-reads
unfolding net_rest
returns-in_err-item-clause-reads g c = grind (arith, item_lists)

pub loop-items-smaller : goal.loop-items-smaller
unfolding net_rest
loop-items-smaller g c = grind (arith, item_lists)

pub loop-items-preserved : goal.loop-items-preserved
unfolding net_rest
loop-items-preserved g c = grind (arith, item_lists)

pub returns-in_err-add-clause-reads : goal.returns-in_err-add-clause-reads
unfolding net_rest
returns-in_err-add-clause-reads g c = grind (arith, item_lists)

pub returns-in_err-finish_form-clause-reads : goal.returns-in_err-finish_form-clause-reads
unfolding net_rest
returns-in_err-finish_form-clause-reads g c = grind (arith, item_lists)

pub returns-clause-reads : goal.returns-clause-reads
unfolding net_rest
returns-clause-reads g c = grind (arith, item_lists)
