use Rattle.std.proofs.Common.{arith}
use Rattle.readers.proofs.Reading.{sequences}
use Rattle.edif_nets.specs.Grammar.{member}
use Rattle.edif_nets.proofs.net.member.Goals as goal

pub returns-in_err-port-clause-reads : goal.returns-in_err-port-clause-reads
unfolding member
returns-in_err-port-clause-reads g c = grind (arith, sequences)

pub returns-in_err-index-clause-reads : goal.returns-in_err-index-clause-reads
unfolding member
returns-in_err-index-clause-reads g c = grind (arith, sequences)

pub returns-in_err-finish_form-clause-reads : goal.returns-in_err-finish_form-clause-reads
unfolding member
returns-in_err-finish_form-clause-reads g c = grind (arith, sequences)

pub returns-clause-reads : goal.returns-clause-reads
unfolding member
returns-clause-reads g c = grind (arith, sequences)
