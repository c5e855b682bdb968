use Rattle.vlog_faults.proofs.Law.{of_attributes}
use Rattle.vlog_faults.proofs.reasons.attribute_reasons_fit.Goals as goal

pub returns : goal.returns
returns c = of_attributes
