use Rattle.std.proofs.Common.{arith}
use Rattle.readers.proofs.Reading.{sequences}
use Rattle.edif_names.specs.Grammar.{property}
use Rattle.edif_names.proofs.property.read_property.Goals as goal

-- src/property.rt:39:16
pub returns-in_err-name-clause-reads : goal.returns-in_err-name-clause-reads
unfolding property
returns-in_err-name-clause-reads g c = grind (arith, sequences)

-- src/property.rt:40:17
pub returns-in_err-value-clause-reads : goal.returns-in_err-value-clause-reads
unfolding property
returns-in_err-value-clause-reads g c = grind (arith, sequences)

-- src/property.rt:41:16
pub returns-in_err-tail-clause-reads : goal.returns-in_err-tail-clause-reads
unfolding property
returns-in_err-tail-clause-reads g c = grind (arith, sequences)

-- src/property.rt:31:1
pub returns-clause-reads : goal.returns-clause-reads
unfolding property
returns-clause-reads g c = grind (arith, sequences)
