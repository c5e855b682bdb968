use Rattle.std.proofs.Common.{arith}
use Rattle.readers.proofs.Reading.{sequences}
use Rattle.edif_nets.specs.Grammar.{no_instance}
use Rattle.edif_nets.proofs.net.no_instance.Goals as goal

pub returns-in_err-finish_form-clause-reads : goal.returns-in_err-finish_form-clause-reads
unfolding no_instance
returns-in_err-finish_form-clause-reads g c = grind (arith, sequences)

pub returns-clause-reads : goal.returns-clause-reads
unfolding no_instance
returns-clause-reads g c = grind (arith, sequences)
