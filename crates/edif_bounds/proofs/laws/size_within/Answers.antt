use Rattle.edif_bounds.proofs.Law.{items_within, proper_within, input_within, file_within}
use Rattle.edif_bounds.proofs.laws.size_within.Goals as goal

pub returns : goal.returns
returns c = record { input = input_within; bytes = proper_within; tokens = items_within; size = file_within }
