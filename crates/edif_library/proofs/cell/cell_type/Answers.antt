use Rattle.std.proofs.Common.{arith}
use Rattle.readers.proofs.Reading.{sequences}
use Rattle.edif_library.specs.Grammar.{cell_type}
use Rattle.edif_library.proofs.cell.cell_type.Goals as goal

pub returns-in_err-begin : goal.returns-in_err-begin
unfolding cell_type
returns-in_err-begin g c = grind (arith, sequences)

pub returns-in_err-kind : goal.returns-in_err-kind
unfolding cell_type
returns-in_err-kind g c = grind (arith, sequences)

pub returns-in_err-finish_form : goal.returns-in_err-finish_form
unfolding cell_type
returns-in_err-finish_form g c = grind (arith, sequences)

pub returns : goal.returns
unfolding cell_type
returns g c = grind (arith, sequences)
