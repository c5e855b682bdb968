use Rattle.std.proofs.Common.{arith}
use Rattle.readers.proofs.Reading.{sequences}
use Rattle.vlog_items.specs.Grammar.{param_set}
use Rattle.vlog_items.proofs.parameter.read_param_set.Goals as goal

pub returns-in_err-name-clause-reads : goal.returns-in_err-name-clause-reads
unfolding param_set
returns-in_err-name-clause-reads g c = grind (arith, sequences)

pub returns-in_err-mark-clause-reads : goal.returns-in_err-mark-clause-reads
unfolding param_set
returns-in_err-mark-clause-reads g c = grind (arith, sequences)

pub returns-in_err-value-clause-reads : goal.returns-in_err-value-clause-reads
unfolding param_set
returns-in_err-value-clause-reads g c = grind (arith, sequences)

pub returns-clause-reads : goal.returns-clause-reads
unfolding param_set
returns-clause-reads g c = grind (arith, sequences)
