use Rattle.vlog_lexing.proofs.Limits.{tokens_whole}
use Rattle.vlog_limits.proofs.tokens.tokens_are_all.Goals as goal

pub returns : goal.returns
returns c = tokens_whole
