use Rattle.std.proofs.Common.{arith}
use Rattle.readers.proofs.Reading.{sequences}
use Rattle.edif_names.specs.Grammar.{tail_item}
use Rattle.edif_names.proofs.property.tail_item.Goals as goal

-- src/property.rt:71:19
pub returns-in_err-keyword-clause-reads : goal.returns-in_err-keyword-clause-reads
unfolding tail_item
returns-in_err-keyword-clause-reads g c = grind (arith, sequences)

-- src/property.rt:63:1
pub returns-clause-reads : goal.returns-clause-reads
unfolding tail_item
returns-clause-reads g c = grind (arith, sequences)
