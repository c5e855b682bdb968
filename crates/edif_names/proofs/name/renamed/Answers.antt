use Rattle.std.proofs.Common.{arith}
use Rattle.readers.proofs.Reading.{sequences}
use Rattle.edif_names.specs.Grammar.{renamed}
use Rattle.edif_names.proofs.name.renamed.Goals as goal

-- src/name.rt:51:17
pub returns-in_err-ident-clause-reads : goal.returns-in_err-ident-clause-reads
unfolding renamed
returns-in_err-ident-clause-reads g c = grind (arith, sequences)

-- src/name.rt:52:16
pub returns-in_err-text-clause-reads : goal.returns-in_err-text-clause-reads
unfolding renamed
returns-in_err-text-clause-reads g c = grind (arith, sequences)

-- src/name.rt:53:5
pub returns-in_err-finish_form-clause-reads : goal.returns-in_err-finish_form-clause-reads
unfolding renamed
returns-in_err-finish_form-clause-reads g c = grind (arith, sequences)

-- src/name.rt:43:1
pub returns-clause-reads : goal.returns-clause-reads
unfolding renamed
returns-clause-reads g c = grind (arith, sequences)
