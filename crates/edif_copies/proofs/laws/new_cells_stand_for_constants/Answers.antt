use Rattle.edif_copies.proofs.NewCells.{new_is_constant}
use Rattle.edif_copies.proofs.laws.new_cells_stand_for_constants.Goals as goal

pub returns : goal.returns
returns c = new_is_constant
