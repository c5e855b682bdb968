use Rattle.std.proofs.Common.{arith}
use Rattle.readers.proofs.Reading.{sequences}
use Rattle.edif_status.specs.Grammar.{no_version}
use Rattle.edif_status.proofs.written.no_version.Goals as goal

-- src/written.rt:240:5
pub returns-in_err-finish_form-clause-reads : goal.returns-in_err-finish_form-clause-reads
unfolding no_version
returns-in_err-finish_form-clause-reads g c = grind (arith, sequences)

-- src/written.rt:232:1
pub returns-clause-reads : goal.returns-clause-reads
unfolding no_version
returns-clause-reads g c = grind (arith, sequences)
