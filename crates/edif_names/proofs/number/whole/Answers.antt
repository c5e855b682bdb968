use Rattle.std.proofs.Common.{arith}
use Rattle.readers.proofs.Reading.{sequences}
use Rattle.edif_names.specs.Grammar.{whole}
use Rattle.edif_names.proofs.number.whole.Goals as goal

-- src/number.rt:47:20
pub returns-in_err-mantissa-clause-reads : goal.returns-in_err-mantissa-clause-reads
unfolding whole
returns-in_err-mantissa-clause-reads g c = grind (arith, sequences)

-- src/number.rt:43:1
pub returns-clause-reads : goal.returns-clause-reads
unfolding whole
returns-clause-reads g c = grind (arith, sequences)
