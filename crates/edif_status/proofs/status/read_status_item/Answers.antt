use Rattle.std.proofs.Common.{arith}
use Rattle.readers.proofs.Reading.{sequences}
use Rattle.edif_status.specs.Grammar.{status_part}
use Rattle.edif_status.proofs.status.read_status_item.Goals as goal

-- src/status.rt:69:19
pub returns-in_err-keyword-clause-reads : goal.returns-in_err-keyword-clause-reads
unfolding status_part
returns-in_err-keyword-clause-reads g c = grind (arith, sequences)

-- src/status.rt:60:1
pub returns-clause-reads : goal.returns-clause-reads
unfolding status_part
returns-clause-reads g c = grind (arith, sequences)
