use Rattle.edif_copies.proofs.Whole.{planned_is_edif}
use Rattle.edif_copies.proofs.laws.planned_files_are_the_same.Goals as goal

pub returns : goal.returns
returns c = λ names design file good valid planned. planned_is_edif names design file valid planned good
