use Rattle.edif_partners.proofs.Same.{made_same}
use Rattle.edif_partners.proofs.laws.made_cells_are_the_same.Goals as goal

pub returns : goal.returns
returns c = made_same
