use Rattle.std.proofs.Common.{arith}
use Rattle.readers.proofs.Reading.{sequences}
use Rattle.vlog_items.proofs.item.read_item.Goals as goal

pub returns-in_err-attributes-clause-reads : goal.returns-in_err-attributes-clause-reads
returns-in_err-attributes-clause-reads g c = grind (arith, sequences)

pub returns-in_err-item-clause-reads : goal.returns-in_err-item-clause-reads
returns-in_err-item-clause-reads g c = grind (arith, sequences)

pub returns-clause-reads : goal.returns-clause-reads
returns-clause-reads g c = grind (arith, sequences)
