use Rattle.std.proofs.Common.{arith}
use Rattle.readers.proofs.Reading.{sequences}
use Rattle.edif_nets.specs.Grammar.{designator}
use Rattle.edif_nets.proofs.port.read_designator.Goals as goal

pub returns-in_err-text-clause-reads : goal.returns-in_err-text-clause-reads
unfolding designator
returns-in_err-text-clause-reads g c = grind (arith, sequences)

pub returns-in_err-finish_form-clause-reads : goal.returns-in_err-finish_form-clause-reads
unfolding designator
returns-in_err-finish_form-clause-reads g c = grind (arith, sequences)

pub returns-clause-reads : goal.returns-clause-reads
unfolding designator
returns-clause-reads g c = grind (arith, sequences)
