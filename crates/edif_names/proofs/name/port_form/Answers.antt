use Rattle.std.proofs.Common.{arith}
use Rattle.readers.proofs.Reading.{sequences}
use Rattle.edif_names.proofs.name.port_form.Goals as goal

pub returns-then-is_array-clause-reads : goal.returns-then-is_array-clause-reads
returns-then-is_array-clause-reads g c = grind (arith, sequences)

pub returns-in_err-name-clause-reads : goal.returns-in_err-name-clause-reads
returns-in_err-name-clause-reads g c = grind (arith, sequences)

pub returns-clause-reads : goal.returns-clause-reads
returns-clause-reads g c = grind (arith, sequences)
