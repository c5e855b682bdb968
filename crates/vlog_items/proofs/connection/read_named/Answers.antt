use Rattle.std.proofs.Common.{arith}
use Rattle.readers.proofs.Reading.{sequences}
use Rattle.vlog_items.specs.Grammar.{named}
use Rattle.vlog_items.proofs.connection.read_named.Goals as goal

pub returns-in_err-mark-clause-reads : goal.returns-in_err-mark-clause-reads
unfolding named
returns-in_err-mark-clause-reads g c = grind (arith, sequences)

pub returns-in_err-conn-clause-reads : goal.returns-in_err-conn-clause-reads
unfolding named
returns-in_err-conn-clause-reads g c = grind (arith, sequences)

pub returns-clause-reads : goal.returns-clause-reads
unfolding named
returns-clause-reads g c = grind (arith, sequences)
