use Rattle.std.proofs.Common.{arith}
use Rattle.readers.proofs.Reading.{sequences}
use Rattle.edif_nets.specs.Grammar.{instance_named}
use Rattle.edif_nets.proofs.net.instance_named.Goals as goal

pub returns-in_err-instance-clause-reads : goal.returns-in_err-instance-clause-reads
unfolding instance_named
returns-in_err-instance-clause-reads g c = grind (arith, sequences)

pub returns-in_err-finish_form-clause-reads : goal.returns-in_err-finish_form-clause-reads
unfolding instance_named
returns-in_err-finish_form-clause-reads g c = grind (arith, sequences)

pub returns-in_err-finish_form-2-clause-reads : goal.returns-in_err-finish_form-2-clause-reads
unfolding instance_named
returns-in_err-finish_form-2-clause-reads g c = grind (arith, sequences)

pub returns-clause-reads : goal.returns-clause-reads
unfolding instance_named
returns-clause-reads g c = grind (arith, sequences)
