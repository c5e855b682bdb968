use Rattle.std.proofs.Common.{arith}
use Rattle.readers.proofs.Reading.{sequences}
use Rattle.edif_nets.specs.Grammar.{port_ref}
use Rattle.edif_nets.proofs.net.port_ref.Goals as goal

pub returns-in_err-port-clause-reads : goal.returns-in_err-port-clause-reads
unfolding port_ref
returns-in_err-port-clause-reads g c = grind (arith, sequences)

pub returns-in_err-instance-clause-reads : goal.returns-in_err-instance-clause-reads
unfolding port_ref
returns-in_err-instance-clause-reads g c = grind (arith, sequences)

pub returns-clause-reads : goal.returns-clause-reads
unfolding port_ref
returns-clause-reads g c = grind (arith, sequences)
