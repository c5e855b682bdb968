use Rattle.std.proofs.Common.{arith}
use Rattle.readers.proofs.Reading.{sequences}
use Rattle.edif_names.specs.Grammar.{exponential}
use Rattle.edif_names.proofs.number.exponential.Goals as goal

-- src/number.rt:37:20
pub returns-in_err-mantissa-clause-reads : goal.returns-in_err-mantissa-clause-reads
unfolding exponential
returns-in_err-mantissa-clause-reads g c = grind (arith, sequences)

-- src/number.rt:38:20
pub returns-in_err-exponent-clause-reads : goal.returns-in_err-exponent-clause-reads
unfolding exponential
returns-in_err-exponent-clause-reads g c = grind (arith, sequences)

-- src/number.rt:39:5
pub returns-in_err-finish_form-clause-reads : goal.returns-in_err-finish_form-clause-reads
unfolding exponential
returns-in_err-finish_form-clause-reads g c = grind (arith, sequences)

-- src/number.rt:29:1
pub returns-clause-reads : goal.returns-clause-reads
unfolding exponential
returns-clause-reads g c = grind (arith, sequences)
