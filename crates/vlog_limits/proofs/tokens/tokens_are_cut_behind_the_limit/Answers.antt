use Rattle.vlog_limits.proofs.Limits.{over_long}
use Rattle.vlog_limits.proofs.tokens.tokens_are_cut_behind_the_limit.Goals as goal

pub returns : goal.returns
returns c = over_long
