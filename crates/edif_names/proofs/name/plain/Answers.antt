use Rattle.std.proofs.Common.{arith}
use Rattle.readers.proofs.Reading.{sequences}
use Rattle.edif_names.specs.Grammar.{plain}
use Rattle.edif_names.proofs.name.plain.Goals as goal

-- src/name.rt:68:17
pub returns-in_err-ident-clause-reads : goal.returns-in_err-ident-clause-reads
unfolding plain
returns-in_err-ident-clause-reads g c = grind (arith, sequences)

-- src/name.rt:60:1
pub returns-clause-reads : goal.returns-clause-reads
unfolding plain
returns-clause-reads g c = grind (arith, sequences)
