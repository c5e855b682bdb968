use Rattle.vlog_goes_on.proofs.Law.{any_tokens}
use Rattle.vlog_goes_on.proofs.texts.fronts_go_on.Goals as goal

pub returns : goal.returns
returns c = any_tokens
