use Rattle.std.proofs.Common.{arith}
use Rattle.readers.proofs.Reading.{sequences}
use Rattle.vlog_items.specs.Grammar.{assignment}
use Rattle.vlog_items.proofs.assign.read_assignment.Goals as goal

pub returns-in_err-left-clause-reads : goal.returns-in_err-left-clause-reads
unfolding assignment
returns-in_err-left-clause-reads g c = grind (arith, sequences)

pub returns-in_err-mark-clause-reads : goal.returns-in_err-mark-clause-reads
unfolding assignment
returns-in_err-mark-clause-reads g c = grind (arith, sequences)

pub returns-in_err-right-clause-reads : goal.returns-in_err-right-clause-reads
unfolding assignment
returns-in_err-right-clause-reads g c = grind (arith, sequences)

pub returns-clause-reads : goal.returns-clause-reads
unfolding assignment
returns-clause-reads g c = grind (arith, sequences)
