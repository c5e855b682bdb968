use Rattle.std.proofs.Common.{arith}
use Rattle.readers.proofs.Reading.{sequences}
use Rattle.vlog_items.specs.Grammar.{override_set}
use Rattle.vlog_items.proofs.instance.read_override.Goals as goal

pub returns-in_err-mark-clause-reads : goal.returns-in_err-mark-clause-reads
unfolding override_set
returns-in_err-mark-clause-reads g c = grind (arith, sequences)

pub returns-in_err-set-clause-reads : goal.returns-in_err-set-clause-reads
unfolding override_set
returns-in_err-set-clause-reads g c = grind (arith, sequences)

pub returns-clause-reads : goal.returns-clause-reads
unfolding override_set
returns-clause-reads g c = grind (arith, sequences)
