use Rattle.vlog_limits.proofs.Rising.{rises}
use Rattle.vlog_limits.proofs.tokens.stops_rise.Goals as goal

pub returns : goal.returns
returns c = rises
