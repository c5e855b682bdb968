use Rattle.std.proofs.Common.{arith}
use Rattle.readers.proofs.Reading.{sequences}
use Rattle.edif_nets.specs.Grammar.{direction}
use Rattle.edif_nets.proofs.port.direction_item.Goals as goal

pub returns-in_err-direction-clause-reads : goal.returns-in_err-direction-clause-reads
unfolding direction
returns-in_err-direction-clause-reads g c = grind (arith, sequences)

pub returns-in_err-finish_form-clause-reads : goal.returns-in_err-finish_form-clause-reads
unfolding direction
returns-in_err-finish_form-clause-reads g c = grind (arith, sequences)

pub returns-clause-reads : goal.returns-clause-reads
unfolding direction
returns-clause-reads g c = grind (arith, sequences)
