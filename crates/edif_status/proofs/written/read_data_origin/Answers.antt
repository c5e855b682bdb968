use Rattle.std.proofs.Common.{arith}
use Rattle.readers.proofs.Reading.{sequences}
use Rattle.edif_status.specs.Grammar.{data_origin}
use Rattle.edif_status.proofs.written.read_data_origin.Goals as goal

-- src/written.rt:195:16
pub returns-in_err-name-clause-reads : goal.returns-in_err-name-clause-reads
unfolding data_origin
returns-in_err-name-clause-reads g c = grind (arith, sequences)

-- src/written.rt:196:19
pub returns-in_err-version-clause-reads : goal.returns-in_err-version-clause-reads
unfolding data_origin
returns-in_err-version-clause-reads g c = grind (arith, sequences)

-- src/written.rt:187:1
pub returns-clause-reads : goal.returns-clause-reads
unfolding data_origin
returns-clause-reads g c = grind (arith, sequences)
