use Rattle.std.proofs.Common.{arith}
use Rattle.readers.proofs.Reading.{sequences}
use Rattle.edif_status.specs.Grammar.{program}
use Rattle.edif_status.proofs.written.read_program.Goals as goal

-- src/written.rt:181:16
pub returns-in_err-name-clause-reads : goal.returns-in_err-name-clause-reads
unfolding program
returns-in_err-name-clause-reads g c = grind (arith, sequences)

-- src/written.rt:182:19
pub returns-in_err-version-clause-reads : goal.returns-in_err-version-clause-reads
unfolding program
returns-in_err-version-clause-reads g c = grind (arith, sequences)

-- src/written.rt:173:1
pub returns-clause-reads : goal.returns-clause-reads
unfolding program
returns-clause-reads g c = grind (arith, sequences)
