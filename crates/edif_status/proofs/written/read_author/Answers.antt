use Rattle.std.proofs.Common.{arith}
use Rattle.readers.proofs.Reading.{sequences}
use Rattle.edif_status.specs.Grammar.{author}
use Rattle.edif_status.proofs.written.read_author.Goals as goal

-- src/written.rt:167:16
pub returns-in_err-name-clause-reads : goal.returns-in_err-name-clause-reads
unfolding author
returns-in_err-name-clause-reads g c = grind (arith, sequences)

-- src/written.rt:168:5
pub returns-in_err-finish_form-clause-reads : goal.returns-in_err-finish_form-clause-reads
unfolding author
returns-in_err-finish_form-clause-reads g c = grind (arith, sequences)

-- src/written.rt:159:1
pub returns-clause-reads : goal.returns-clause-reads
unfolding author
returns-clause-reads g c = grind (arith, sequences)
