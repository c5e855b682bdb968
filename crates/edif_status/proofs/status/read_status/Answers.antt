use Rattle.std.proofs.Common.{arith}
use Rattle.readers.proofs.Reading.{sequences}
use Rattle.edif_status.specs.Grammar.{status}
use Rattle.edif_status.proofs.status.read_status.Goals as goal

-- src/status.rt:37:17
pub returns-in_err-items-clause-reads : goal.returns-in_err-items-clause-reads
unfolding status
returns-in_err-items-clause-reads g c = grind (arith, sequences)

-- src/status.rt:29:1
pub returns-clause-reads : goal.returns-clause-reads
unfolding status
returns-clause-reads g c = grind (arith, sequences)
