use Rattle.std.proofs.Common.{arith}
use Rattle.readers.proofs.Reading.{sequences}
use Rattle.vlog_items.specs.Grammar.{word_item}
use Rattle.vlog_items.proofs.item.read_word_item.Goals as goal

pub returns-in_err-decl-in-Port-clause-reads : goal.returns-in_err-decl-in-Port-clause-reads
unfolding word_item
returns-in_err-decl-in-Port-clause-reads g c = grind (arith, sequences)

pub returns-in_err-decl-in-Net-clause-reads : goal.returns-in_err-decl-in-Net-clause-reads
unfolding word_item
returns-in_err-decl-in-Net-clause-reads g c = grind (arith, sequences)

pub returns-in_err-decl-in-Param-clause-reads : goal.returns-in_err-decl-in-Param-clause-reads
unfolding word_item
returns-in_err-decl-in-Param-clause-reads g c = grind (arith, sequences)

pub returns-in_err-assigns-in-Assign-clause-reads : goal.returns-in_err-assigns-in-Assign-clause-reads
unfolding word_item
returns-in_err-assigns-in-Assign-clause-reads g c = grind (arith, sequences)

pub returns-in_err-defparams-in-Defparam-clause-reads : goal.returns-in_err-defparams-in-Defparam-clause-reads
unfolding word_item
returns-in_err-defparams-in-Defparam-clause-reads g c = grind (arith, sequences)

pub returns-in_ok-decl-in-Port-clause-reads : goal.returns-in_ok-decl-in-Port-clause-reads
unfolding word_item
returns-in_ok-decl-in-Port-clause-reads g c = grind (arith, sequences)

pub returns-in_ok-decl-in-Net-clause-reads : goal.returns-in_ok-decl-in-Net-clause-reads
unfolding word_item
returns-in_ok-decl-in-Net-clause-reads g c = grind (arith, sequences)

pub returns-in_ok-decl-in-Param-clause-reads : goal.returns-in_ok-decl-in-Param-clause-reads
unfolding word_item
returns-in_ok-decl-in-Param-clause-reads g c = grind (arith, sequences)

pub returns-in_ok-assigns-in-Assign-clause-reads : goal.returns-in_ok-assigns-in-Assign-clause-reads
unfolding word_item
returns-in_ok-assigns-in-Assign-clause-reads g c = grind (arith, sequences)

pub returns-in_ok-defparams-in-Defparam-clause-reads : goal.returns-in_ok-defparams-in-Defparam-clause-reads
unfolding word_item
returns-in_ok-defparams-in-Defparam-clause-reads g c = grind (arith, sequences)
