use Rattle.std.proofs.Common.{arith}
use Rattle.readers.proofs.Reading.{sequences}
use Rattle.edif_status.specs.Grammar.{written_part}
use Rattle.edif_status.proofs.written.read_written_item.Goals as goal

-- src/written.rt:131:19
pub returns-in_err-keyword-clause-reads : goal.returns-in_err-keyword-clause-reads
unfolding written_part
returns-in_err-keyword-clause-reads g c = grind (arith, sequences)

-- src/written.rt:116:1
pub returns-clause-reads : goal.returns-clause-reads
unfolding written_part
returns-clause-reads g c = grind (arith, sequences)
