use Rattle.std.proofs.Common.{arith}
use Rattle.edif_keywords.proofs.Collected.{item_lists}
use Rattle.edif_nets.specs.Grammar.{joined_rest}
use Rattle.edif_nets.proofs.net.joined_rest.Goals as goal

pub loop-references-init : goal.loop-references-init
unfolding joined_rest
loop-references-init g c = grind (arith, item_lists)

pub returns-in_err-at_form-clause-reads : goal.returns-in_err-at_form-clause-reads
unfolding joined_rest
returns-in_err-at_form-clause-reads g c = grind (arith, item_lists)

pub returns-in_err-reference-clause-reads : goal.returns-in_err-reference-clause-reads
unfolding joined_rest
returns-in_err-reference-clause-reads g c = grind (arith, item_lists)

pub loop-references-smaller : goal.loop-references-smaller
unfolding joined_rest
loop-references-smaller g c = grind (arith, item_lists)

pub loop-references-preserved : goal.loop-references-preserved
unfolding joined_rest
loop-references-preserved g c = grind (arith, item_lists)

pub returns-in_err-add-clause-reads : goal.returns-in_err-add-clause-reads
unfolding joined_rest
returns-in_err-add-clause-reads g c = grind (arith, item_lists)

pub returns-in_err-finish_form-clause-reads : goal.returns-in_err-finish_form-clause-reads
unfolding joined_rest
returns-in_err-finish_form-clause-reads g c = grind (arith, item_lists)

pub returns-clause-reads : goal.returns-clause-reads
unfolding joined_rest
returns-clause-reads g c = grind (arith, item_lists)
