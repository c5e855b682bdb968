use Rattle.vlog_faults.proofs.Law.{of_files}
use Rattle.vlog_faults.proofs.reasons.first_faults_fit.Goals as goal

pub returns : goal.returns
returns c = of_files
