use Rattle.std.proofs.Common.{arith}
use Rattle.readers.proofs.Reading.{sequences}
use Rattle.edif_status.proofs.note.read_note.Goals as goal

pub returns-in_err-texts-clause-reads : goal.returns-in_err-texts-clause-reads
returns-in_err-texts-clause-reads g c = grind (arith, sequences)

pub returns-then-same_keyword-clause-reads : goal.returns-then-same_keyword-clause-reads
returns-then-same_keyword-clause-reads g c = grind (arith, sequences)

pub returns-in_err-data-clause-reads : goal.returns-in_err-data-clause-reads
returns-in_err-data-clause-reads g c = grind (arith, sequences)

pub returns-clause-reads : goal.returns-clause-reads
returns-clause-reads g c = grind (arith, sequences)
