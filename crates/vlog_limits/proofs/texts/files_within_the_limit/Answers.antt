use Rattle.vlog_limits.proofs.Law.{reads}
use Rattle.vlog_limits.proofs.texts.files_within_the_limit.Goals as goal

pub returns : goal.returns
returns c = reads
