use Rattle.std.proofs.Common.{arith}
use Rattle.readers.proofs.Reading.{sequences}
use Rattle.edif_nets.specs.Grammar.{port}
use Rattle.edif_nets.proofs.port.read_port.Goals as goal

pub returns-in_err-name-clause-reads : goal.returns-in_err-name-clause-reads
unfolding port
returns-in_err-name-clause-reads g c = grind (arith, sequences)

pub returns-in_err-items-clause-reads : goal.returns-in_err-items-clause-reads
unfolding port
returns-in_err-items-clause-reads g c = grind (arith, sequences)

pub returns-clause-reads : goal.returns-clause-reads
unfolding port
returns-clause-reads g c = grind (arith, sequences)
