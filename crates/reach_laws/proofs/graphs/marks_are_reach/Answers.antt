use Rattle.reach_laws.proofs.Marking.{marks_reach}
use Rattle.reach_laws.proofs.graphs.marks_are_reach.Goals as goal

pub returns : goal.returns
returns c = marks_reach
