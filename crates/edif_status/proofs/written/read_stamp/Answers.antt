use Rattle.std.proofs.Common.{arith}
use Rattle.readers.proofs.Reading.{sequences}
use Rattle.edif_status.specs.Grammar.{stamp}
use Rattle.edif_status.proofs.written.read_stamp.Goals as goal

-- src/written.rt:65:16
pub returns-in_err-year-clause-reads : goal.returns-in_err-year-clause-reads
unfolding stamp
returns-in_err-year-clause-reads g c = grind (arith, sequences)

-- src/written.rt:66:17
pub returns-in_err-month-clause-reads : goal.returns-in_err-month-clause-reads
unfolding stamp
returns-in_err-month-clause-reads g c = grind (arith, sequences)

-- src/written.rt:67:15
pub returns-in_err-day-clause-reads : goal.returns-in_err-day-clause-reads
unfolding stamp
returns-in_err-day-clause-reads g c = grind (arith, sequences)

-- src/written.rt:57:1
pub returns-clause-reads : goal.returns-clause-reads
unfolding stamp
returns-clause-reads g c = grind (arith, sequences)
