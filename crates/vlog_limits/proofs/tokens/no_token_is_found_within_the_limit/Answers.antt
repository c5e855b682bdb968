use Rattle.vlog_limits.proofs.Limits.{bad_within}
use Rattle.vlog_limits.proofs.tokens.no_token_is_found_within_the_limit.Goals as goal

pub returns : goal.returns
returns c = bad_within
