use Rattle.std.proofs.Common.{arith}
use Rattle.readers.proofs.Reading.{sequences}
use Rattle.edif_names.specs.Grammar.{integer_value}
use Rattle.edif_names.proofs.value.integer_value.Goals as goal

-- src/value.rt:76:18
pub returns-in_err-number-clause-reads : goal.returns-in_err-number-clause-reads
unfolding integer_value
returns-in_err-number-clause-reads g c = grind (arith, sequences)

-- src/value.rt:77:5
pub returns-in_err-finish_form-clause-reads : goal.returns-in_err-finish_form-clause-reads
unfolding integer_value
returns-in_err-finish_form-clause-reads g c = grind (arith, sequences)

-- src/value.rt:68:1
pub returns-clause-reads : goal.returns-clause-reads
unfolding integer_value
returns-clause-reads g c = grind (arith, sequences)
