use Rattle.vlog_reasons.proofs.Law.{fit}
use Rattle.vlog_reasons.proofs.reasons.first_faults_fit.Goals as goal

pub returns : goal.returns
returns c = fit
