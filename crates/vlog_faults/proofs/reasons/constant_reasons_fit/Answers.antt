use Rattle.vlog_faults.proofs.Law.{of_constants}
use Rattle.vlog_faults.proofs.reasons.constant_reasons_fit.Goals as goal

pub returns : goal.returns
returns c = of_constants
