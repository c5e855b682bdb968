use Rattle.vlog_exprs.proofs.Constants.{constants}
use Rattle.vlog_exprs.proofs.laws.constant_texts.Goals as goal

pub returns : goal.returns
returns c = constants
