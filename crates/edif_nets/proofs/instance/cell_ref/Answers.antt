use Rattle.std.proofs.Common.{arith}
use Rattle.readers.proofs.Reading.{sequences}
use Rattle.edif_nets.specs.Grammar.{cell_ref}
use Rattle.edif_nets.proofs.instance.cell_ref.Goals as goal

pub returns-in_err-begin-clause-reads : goal.returns-in_err-begin-clause-reads
unfolding cell_ref
returns-in_err-begin-clause-reads g c = grind (arith, sequences)

pub returns-in_err-cell-clause-reads : goal.returns-in_err-cell-clause-reads
unfolding cell_ref
returns-in_err-cell-clause-reads g c = grind (arith, sequences)

pub returns-in_err-library-clause-reads : goal.returns-in_err-library-clause-reads
unfolding cell_ref
returns-in_err-library-clause-reads g c = grind (arith, sequences)

pub returns-clause-reads : goal.returns-clause-reads
unfolding cell_ref
returns-clause-reads g c = grind (arith, sequences)
