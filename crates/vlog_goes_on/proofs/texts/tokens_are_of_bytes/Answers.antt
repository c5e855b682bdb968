use Rattle.vlog_goes_on.proofs.Law.{of_bytes}
use Rattle.vlog_goes_on.proofs.texts.tokens_are_of_bytes.Goals as goal

pub returns : goal.returns
returns c = of_bytes
