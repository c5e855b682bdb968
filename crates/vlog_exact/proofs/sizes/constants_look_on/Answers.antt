use Rattle.vlog_exact.proofs.Looking.{const_looks}
use Rattle.vlog_exact.proofs.sizes.constants_look_on.Goals as goal

pub returns : goal.returns
returns c = const_looks
