use Rattle.std.proofs.Common.{arith}
use Rattle.readers.proofs.Reading.{sequences}
use Rattle.vlog_items.specs.Grammar.{plain_type}
use Rattle.vlog_items.proofs.parameter.read_plain_type.Goals as goal

pub returns-in_err-signed-clause-reads : goal.returns-in_err-signed-clause-reads
unfolding plain_type
returns-in_err-signed-clause-reads g c = grind (arith, sequences)

pub returns-in_err-range-clause-reads : goal.returns-in_err-range-clause-reads
unfolding plain_type
returns-in_err-range-clause-reads g c = grind (arith, sequences)

pub returns-clause-reads : goal.returns-clause-reads
unfolding plain_type
returns-clause-reads g c = grind (arith, sequences)
