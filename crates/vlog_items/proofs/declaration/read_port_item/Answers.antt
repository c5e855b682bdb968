use Rattle.std.proofs.Common.{arith}
use Rattle.readers.proofs.Reading.{sequences}
use Rattle.vlog_items.specs.Grammar.{port_item}
use Rattle.vlog_items.proofs.declaration.read_port_item.Goals as goal

pub returns-in_err-kind-clause-reads : goal.returns-in_err-kind-clause-reads
unfolding port_item
returns-in_err-kind-clause-reads g c = grind (arith, sequences)

pub returns-in_err-signed-clause-reads : goal.returns-in_err-signed-clause-reads
unfolding port_item
returns-in_err-signed-clause-reads g c = grind (arith, sequences)

pub returns-in_err-range-clause-reads : goal.returns-in_err-range-clause-reads
unfolding port_item
returns-in_err-range-clause-reads g c = grind (arith, sequences)

pub returns-in_err-names-clause-reads : goal.returns-in_err-names-clause-reads
unfolding port_item
returns-in_err-names-clause-reads g c = grind (arith, sequences)

pub returns-clause-reads : goal.returns-clause-reads
unfolding port_item
returns-clause-reads g c = grind (arith, sequences)
