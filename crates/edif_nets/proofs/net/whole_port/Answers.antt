use Rattle.std.proofs.Common.{arith}
use Rattle.readers.proofs.Reading.{sequences}
use Rattle.edif_nets.specs.Grammar.{whole_port}
use Rattle.edif_nets.proofs.net.whole_port.Goals as goal

pub returns-in_err-port-clause-reads : goal.returns-in_err-port-clause-reads
unfolding whole_port
returns-in_err-port-clause-reads g c = grind (arith, sequences)

pub returns-clause-reads : goal.returns-clause-reads
unfolding whole_port
returns-clause-reads g c = grind (arith, sequences)
