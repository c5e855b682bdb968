use Rattle.vlog_limits.proofs.Limits.{a_front}
use Rattle.vlog_limits.proofs.tokens.tokens_are_a_front.Goals as goal

pub returns : goal.returns
returns c = a_front
