use Rattle.reach_laws.proofs.Reaching.{names_reach}
use Rattle.reach_laws.proofs.modules.modules_reach.Goals as goal

pub returns : goal.returns
returns c = names_reach
