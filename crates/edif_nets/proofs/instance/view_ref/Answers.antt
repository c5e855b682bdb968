use Rattle.std.proofs.Common.{arith}
use Rattle.readers.proofs.Reading.{sequences}
use Rattle.edif_nets.specs.Grammar.{view_ref}
use Rattle.edif_nets.proofs.instance.view_ref.Goals as goal

pub returns-in_err-begin-clause-reads : goal.returns-in_err-begin-clause-reads
unfolding view_ref
returns-in_err-begin-clause-reads g c = grind (arith, sequences)

pub returns-in_err-view-clause-reads : goal.returns-in_err-view-clause-reads
unfolding view_ref
returns-in_err-view-clause-reads g c = grind (arith, sequences)

pub returns-in_err-cell-clause-reads : goal.returns-in_err-cell-clause-reads
unfolding view_ref
returns-in_err-cell-clause-reads g c = grind (arith, sequences)

pub returns-in_err-finish_form-clause-reads : goal.returns-in_err-finish_form-clause-reads
unfolding view_ref
returns-in_err-finish_form-clause-reads g c = grind (arith, sequences)

pub returns-clause-reads : goal.returns-clause-reads
unfolding view_ref
returns-clause-reads g c = grind (arith, sequences)
