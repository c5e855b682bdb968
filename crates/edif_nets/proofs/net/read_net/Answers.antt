use Rattle.std.proofs.Common.{arith}
use Rattle.readers.proofs.Reading.{sequences}
use Rattle.edif_nets.specs.Grammar.{net}
use Rattle.edif_nets.proofs.net.read_net.Goals as goal

pub returns-in_err-name-clause-reads : goal.returns-in_err-name-clause-reads
unfolding net
returns-in_err-name-clause-reads g c = grind (arith, sequences)

pub returns-in_err-joined-clause-reads : goal.returns-in_err-joined-clause-reads
unfolding net
returns-in_err-joined-clause-reads g c = grind (arith, sequences)

pub returns-in_err-items-clause-reads : goal.returns-in_err-items-clause-reads
unfolding net
returns-in_err-items-clause-reads g c = grind (arith, sequences)

pub returns-clause-reads : goal.returns-clause-reads
unfolding net
returns-clause-reads g c = grind (arith, sequences)
