use Rattle.std.proofs.Common.{arith}
use Rattle.readers.proofs.Reading.{sequences}
use Rattle.edif_status.specs.Grammar.{written}
use Rattle.edif_status.proofs.written.read_written.Goals as goal

-- src/written.rt:50:5
pub returns-in_err-begin-clause-reads : goal.returns-in_err-begin-clause-reads
unfolding written
returns-in_err-begin-clause-reads g c = grind (arith, sequences)

-- src/written.rt:51:17
pub returns-in_err-stamp-clause-reads : goal.returns-in_err-stamp-clause-reads
unfolding written
returns-in_err-stamp-clause-reads g c = grind (arith, sequences)

-- src/written.rt:52:17
pub returns-in_err-items-clause-reads : goal.returns-in_err-items-clause-reads
unfolding written
returns-in_err-items-clause-reads g c = grind (arith, sequences)

-- src/written.rt:42:1
pub returns-clause-reads : goal.returns-clause-reads
unfolding written
returns-clause-reads g c = grind (arith, sequences)
