use Rattle.edif_reasons.proofs.Law.{fit}
use Rattle.edif_reasons.proofs.reasons.first_faults_fit.Goals as goal

pub returns : goal.returns
returns c = fit
