use Rattle.reach_laws.proofs.Reaching.{marked_modules}
use Rattle.reach_laws.proofs.modules.marked_modules_are_reached.Goals as goal

pub returns : goal.returns
returns c = marked_modules
