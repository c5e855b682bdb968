use Rattle.std.proofs.Common.{arith}
use Rattle.readers.proofs.Reading.{sequences}
use Rattle.vlog_items.specs.Grammar.{instances}
use Rattle.vlog_items.proofs.instance.read_instances.Goals as goal

pub returns-in_err-params-clause-reads : goal.returns-in_err-params-clause-reads
unfolding instances
returns-in_err-params-clause-reads g c = grind (arith, sequences)

pub returns-in_err-insts-clause-reads : goal.returns-in_err-insts-clause-reads
unfolding instances
returns-in_err-insts-clause-reads g c = grind (arith, sequences)

pub returns-clause-reads : goal.returns-clause-reads
unfolding instances
returns-clause-reads g c = grind (arith, sequences)
