use Rattle.std.proofs.Common.{arith}
use Rattle.readers.proofs.Reading.{sequences}
use Rattle.edif_status.specs.Grammar.{clock}
use Rattle.edif_status.proofs.written.read_clock.Goals as goal

-- src/written.rt:83:16
pub returns-in_err-hour-clause-reads : goal.returns-in_err-hour-clause-reads
unfolding clock
returns-in_err-hour-clause-reads g c = grind (arith, sequences)

-- src/written.rt:84:18
pub returns-in_err-minute-clause-reads : goal.returns-in_err-minute-clause-reads
unfolding clock
returns-in_err-minute-clause-reads g c = grind (arith, sequences)

-- src/written.rt:85:18
pub returns-in_err-second-clause-reads : goal.returns-in_err-second-clause-reads
unfolding clock
returns-in_err-second-clause-reads g c = grind (arith, sequences)

-- src/written.rt:86:5
pub returns-in_err-finish_form-clause-reads : goal.returns-in_err-finish_form-clause-reads
unfolding clock
returns-in_err-finish_form-clause-reads g c = grind (arith, sequences)

-- src/written.rt:72:1
pub returns-clause-reads : goal.returns-clause-reads
unfolding clock
returns-clause-reads g c = grind (arith, sequences)
