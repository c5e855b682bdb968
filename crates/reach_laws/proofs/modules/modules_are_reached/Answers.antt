use Rattle.reach_laws.proofs.Reaching.{reached_modules}
use Rattle.reach_laws.proofs.modules.modules_are_reached.Goals as goal

pub returns : goal.returns
returns c = reached_modules
