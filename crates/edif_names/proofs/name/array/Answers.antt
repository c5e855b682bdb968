use Rattle.std.proofs.Common.{arith}
use Rattle.readers.proofs.Reading.{sequences}
use Rattle.edif_names.specs.Grammar.{array}
use Rattle.edif_names.proofs.name.array.Goals as goal

-- src/name.rt:112:16
pub returns-in_err-name-clause-reads : goal.returns-in_err-name-clause-reads
unfolding array
returns-in_err-name-clause-reads g c = grind (arith, sequences)

-- src/name.rt:113:16
pub returns-in_err-size-clause-reads : goal.returns-in_err-size-clause-reads
unfolding array
returns-in_err-size-clause-reads g c = grind (arith, sequences)

-- src/name.rt:114:5
pub returns-in_err-finish_form-clause-reads : goal.returns-in_err-finish_form-clause-reads
unfolding array
returns-in_err-finish_form-clause-reads g c = grind (arith, sequences)

-- src/name.rt:104:1
pub returns-clause-reads : goal.returns-clause-reads
unfolding array
returns-clause-reads g c = grind (arith, sequences)
