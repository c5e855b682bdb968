use Rattle.std.proofs.Common.{arith}
use Rattle.readers.proofs.Reading.{sequences}
use Rattle.edif_status.specs.Grammar.{version_text}
use Rattle.edif_status.proofs.written.read_version_text.Goals as goal

-- src/written.rt:225:16
pub returns-in_err-text-clause-reads : goal.returns-in_err-text-clause-reads
unfolding version_text
returns-in_err-text-clause-reads g c = grind (arith, sequences)

-- src/written.rt:226:5
pub returns-in_err-finish_form-clause-reads : goal.returns-in_err-finish_form-clause-reads
unfolding version_text
returns-in_err-finish_form-clause-reads g c = grind (arith, sequences)

-- src/written.rt:227:5
pub returns-in_err-finish_form-2-clause-reads : goal.returns-in_err-finish_form-2-clause-reads
unfolding version_text
returns-in_err-finish_form-2-clause-reads g c = grind (arith, sequences)

-- src/written.rt:217:1
pub returns-clause-reads : goal.returns-clause-reads
unfolding version_text
returns-clause-reads g c = grind (arith, sequences)
