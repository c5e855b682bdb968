use Rattle.std.proofs.Common.{arith}
use Rattle.readers.proofs.Reading.{sequences}
use Rattle.edif_status.proofs.status.read_status_form.Goals as goal

pub returns-in_err-written-clause-reads : goal.returns-in_err-written-clause-reads
returns-in_err-written-clause-reads g c = grind (arith, sequences)

pub returns-then-same_keyword-clause-reads : goal.returns-then-same_keyword-clause-reads
returns-then-same_keyword-clause-reads g c = grind (arith, sequences)

pub returns-in_err-note-clause-reads : goal.returns-in_err-note-clause-reads
returns-in_err-note-clause-reads g c = grind (arith, sequences)

pub returns-clause-reads : goal.returns-clause-reads
returns-clause-reads g c = grind (arith, sequences)
