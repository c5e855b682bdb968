use Rattle.std.proofs.Common.{arith}
use Rattle.readers.proofs.Reading.{sequences}
use Rattle.vlog_items.specs.Grammar.{net_item}
use Rattle.vlog_items.proofs.declaration.read_net_item.Goals as goal

pub returns-in_err-signed-clause-reads : goal.returns-in_err-signed-clause-reads
unfolding net_item
returns-in_err-signed-clause-reads g c = grind (arith, sequences)

pub returns-in_err-range-clause-reads : goal.returns-in_err-range-clause-reads
unfolding net_item
returns-in_err-range-clause-reads g c = grind (arith, sequences)

pub returns-in_err-names-clause-reads : goal.returns-in_err-names-clause-reads
unfolding net_item
returns-in_err-names-clause-reads g c = grind (arith, sequences)

pub returns-clause-reads : goal.returns-clause-reads
unfolding net_item
returns-clause-reads g c = grind (arith, sequences)
