use Rattle.std.proofs.Common.{arith}
use Rattle.readers.proofs.Reading.{sequences}
use Rattle.edif_names.specs.Grammar.{value}
use Rattle.edif_names.proofs.value.read_value.Goals as goal

-- src/value.rt:28:19
pub returns-in_err-keyword-clause-reads : goal.returns-in_err-keyword-clause-reads
unfolding value
returns-in_err-keyword-clause-reads g c = grind (arith, sequences)

-- src/value.rt:14:1
pub returns-clause-reads : goal.returns-clause-reads
unfolding value
returns-clause-reads g c = grind (arith, sequences)
