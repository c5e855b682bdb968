use Rattle.vlog_limits.proofs.Law.{faults}
use Rattle.vlog_limits.proofs.texts.first_faults_within_the_limit.Goals as goal

pub returns : goal.returns
returns c = faults
