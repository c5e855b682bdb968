use Rattle.net_flatten_answers.proofs.Whole.{design_there}
use Rattle.net_flatten_answers.proofs.laws.cells_have_a_design.Goals as goal

pub returns : goal.returns
returns c = design_there
