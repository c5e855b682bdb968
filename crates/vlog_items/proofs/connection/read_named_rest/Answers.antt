use Rattle.std.proofs.Common.{arith}
use Rattle.readers.proofs.Reading.{sequences}
use Rattle.vlog_items.specs.Grammar.{named_rest}
use Rattle.vlog_items.proofs.connection.read_named_rest.Goals as goal

pub returns-in_err-port-clause-reads : goal.returns-in_err-port-clause-reads
unfolding named_rest
returns-in_err-port-clause-reads g c = grind (arith, sequences)

pub returns-in_err-mark-clause-reads : goal.returns-in_err-mark-clause-reads
unfolding named_rest
returns-in_err-mark-clause-reads g c = grind (arith, sequences)

pub returns-in_err-value-clause-reads : goal.returns-in_err-value-clause-reads
unfolding named_rest
returns-in_err-value-clause-reads g c = grind (arith, sequences)

pub returns-in_err-mark-2-clause-reads : goal.returns-in_err-mark-2-clause-reads
unfolding named_rest
returns-in_err-mark-2-clause-reads g c = grind (arith, sequences)

pub returns-clause-reads : goal.returns-clause-reads
unfolding named_rest
returns-clause-reads g c = grind (arith, sequences)
