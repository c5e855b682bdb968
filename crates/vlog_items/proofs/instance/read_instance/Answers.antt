use Rattle.std.proofs.Common.{arith}
use Rattle.readers.proofs.Reading.{sequences}
use Rattle.vlog_items.specs.Grammar.{instance}
use Rattle.vlog_items.proofs.instance.read_instance.Goals as goal

pub returns-in_err-name-clause-reads : goal.returns-in_err-name-clause-reads
unfolding instance
returns-in_err-name-clause-reads g c = grind (arith, sequences)

pub returns-in_err-mark-clause-reads : goal.returns-in_err-mark-clause-reads
unfolding instance
returns-in_err-mark-clause-reads g c = grind (arith, sequences)

pub returns-in_err-conns-clause-reads : goal.returns-in_err-conns-clause-reads
unfolding instance
returns-in_err-conns-clause-reads g c = grind (arith, sequences)

pub returns-clause-reads : goal.returns-clause-reads
unfolding instance
returns-clause-reads g c = grind (arith, sequences)
