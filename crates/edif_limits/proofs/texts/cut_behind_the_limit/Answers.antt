use Rattle.edif_limits.proofs.Law.{cut}
use Rattle.edif_limits.proofs.texts.cut_behind_the_limit.Goals as goal

pub returns : goal.returns
returns c = cut
