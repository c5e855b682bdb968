use Rattle.std.proofs.Common.{arith}
use Rattle.readers.proofs.Reading.{sequences}
use Rattle.vlog_items.specs.Grammar.{override_rest}
use Rattle.vlog_items.proofs.instance.read_override_rest.Goals as goal

pub returns-in_err-name-clause-reads : goal.returns-in_err-name-clause-reads
unfolding override_rest
returns-in_err-name-clause-reads g c = grind (arith, sequences)

pub returns-in_err-mark-clause-reads : goal.returns-in_err-mark-clause-reads
unfolding override_rest
returns-in_err-mark-clause-reads g c = grind (arith, sequences)

pub returns-in_err-value-clause-reads : goal.returns-in_err-value-clause-reads
unfolding override_rest
returns-in_err-value-clause-reads g c = grind (arith, sequences)

pub returns-in_err-mark-2-clause-reads : goal.returns-in_err-mark-2-clause-reads
unfolding override_rest
returns-in_err-mark-2-clause-reads g c = grind (arith, sequences)

pub returns-clause-reads : goal.returns-clause-reads
unfolding override_rest
returns-clause-reads g c = grind (arith, sequences)
