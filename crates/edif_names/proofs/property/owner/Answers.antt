use Rattle.std.proofs.Common.{arith}
use Rattle.readers.proofs.Reading.{sequences}
use Rattle.edif_names.specs.Grammar.{owner}
use Rattle.edif_names.proofs.property.owner.Goals as goal

-- src/property.rt:99:16
pub returns-in_err-text-clause-reads : goal.returns-in_err-text-clause-reads
unfolding owner
returns-in_err-text-clause-reads g c = grind (arith, sequences)

-- src/property.rt:100:5
pub returns-in_err-finish_form-clause-reads : goal.returns-in_err-finish_form-clause-reads
unfolding owner
returns-in_err-finish_form-clause-reads g c = grind (arith, sequences)

-- src/property.rt:91:1
pub returns-clause-reads : goal.returns-clause-reads
unfolding owner
returns-clause-reads g c = grind (arith, sequences)
