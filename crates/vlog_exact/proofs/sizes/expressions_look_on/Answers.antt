use Rattle.vlog_exact.proofs.Looking.{looks}
use Rattle.vlog_exact.proofs.sizes.expressions_look_on.Goals as goal

pub returns : goal.returns
returns c = looks
