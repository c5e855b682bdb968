use Rattle.std.proofs.Common.{arith}
use Rattle.readers.proofs.Reading.{sequences}
use Rattle.edif_names.specs.Grammar.{string_value}
use Rattle.edif_names.proofs.value.string_value.Goals as goal

-- src/value.rt:62:16
pub returns-in_err-text-clause-reads : goal.returns-in_err-text-clause-reads
unfolding string_value
returns-in_err-text-clause-reads g c = grind (arith, sequences)

-- src/value.rt:63:5
pub returns-in_err-finish_form-clause-reads : goal.returns-in_err-finish_form-clause-reads
unfolding string_value
returns-in_err-finish_form-clause-reads g c = grind (arith, sequences)

-- src/value.rt:54:1
pub returns-clause-reads : goal.returns-clause-reads
unfolding string_value
returns-clause-reads g c = grind (arith, sequences)
