use Rattle.reach_laws.proofs.Library.{reached_cells}
use Rattle.reach_laws.proofs.cells.cells_are_reached.Goals as goal

pub returns : goal.returns
returns c = reached_cells
