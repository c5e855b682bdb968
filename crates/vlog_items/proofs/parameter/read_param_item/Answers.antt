use Rattle.std.proofs.Common.{arith}
use Rattle.readers.proofs.Reading.{sequences}
use Rattle.vlog_items.specs.Grammar.{param_item}
use Rattle.vlog_items.proofs.parameter.read_param_item.Goals as goal

pub returns-in_err-kind-clause-reads : goal.returns-in_err-kind-clause-reads
unfolding param_item
returns-in_err-kind-clause-reads g c = grind (arith, sequences)

pub returns-in_err-sets-clause-reads : goal.returns-in_err-sets-clause-reads
unfolding param_item
returns-in_err-sets-clause-reads g c = grind (arith, sequences)

pub returns-clause-reads : goal.returns-clause-reads
unfolding param_item
returns-clause-reads g c = grind (arith, sequences)
