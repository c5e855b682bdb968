use Rattle.reach_laws.proofs.Reaching.{recursion}
use Rattle.reach_laws.proofs.modules.recursion_is_reach.Goals as goal

pub returns : goal.returns
returns c = recursion
