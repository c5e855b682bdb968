use Rattle.std.proofs.Common.{arith}
use Rattle.readers.proofs.Reading.{sequences}
use Rattle.edif_status.proofs.written.read_written_form.Goals as goal

-- src/written.rt:146:9
pub returns-then-same_keyword-clause-reads : goal.returns-then-same_keyword-clause-reads
returns-then-same_keyword-clause-reads g c = grind (arith, sequences)

-- src/written.rt:149:9
pub returns-then-same_keyword-2-clause-reads : goal.returns-then-same_keyword-2-clause-reads
returns-then-same_keyword-2-clause-reads g c = grind (arith, sequences)

-- src/written.rt:152:9
pub returns-then-same_keyword-3-clause-reads : goal.returns-then-same_keyword-3-clause-reads
returns-then-same_keyword-3-clause-reads g c = grind (arith, sequences)

-- src/written.rt:154:16
pub returns-in_err-note-clause-reads : goal.returns-in_err-note-clause-reads
returns-in_err-note-clause-reads g c = grind (arith, sequences)

-- src/written.rt:136:1
pub returns-clause-reads : goal.returns-clause-reads
returns-clause-reads g c = grind (arith, sequences)
