use Rattle.std.proofs.Common.{arith}
use Rattle.readers.proofs.Reading.{sequences}
use Rattle.edif_names.specs.Grammar.{boolean_value}
use Rattle.edif_names.proofs.value.boolean_value.Goals as goal

-- src/value.rt:104:19
pub returns-in_err-keyword-clause-reads : goal.returns-in_err-keyword-clause-reads
unfolding boolean_value
returns-in_err-keyword-clause-reads g c = grind (arith, sequences)

-- src/value.rt:105:5
pub returns-in_err-finish_form-clause-reads : goal.returns-in_err-finish_form-clause-reads
unfolding boolean_value
returns-in_err-finish_form-clause-reads g c = grind (arith, sequences)

-- src/value.rt:106:5
pub returns-in_err-finish_form-2-clause-reads : goal.returns-in_err-finish_form-2-clause-reads
unfolding boolean_value
returns-in_err-finish_form-2-clause-reads g c = grind (arith, sequences)

-- src/value.rt:96:1
pub returns-clause-reads : goal.returns-clause-reads
unfolding boolean_value
returns-clause-reads g c = grind (arith, sequences)
