use Rattle.vlog_reasons.proofs.Law.{fit_within}
use Rattle.vlog_reasons.proofs.reasons.told_faults_fit.Goals as goal

pub returns : goal.returns
returns c = fit_within
