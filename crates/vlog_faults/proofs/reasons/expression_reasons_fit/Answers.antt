use Rattle.vlog_faults.proofs.Law.{of_expressions}
use Rattle.vlog_faults.proofs.reasons.expression_reasons_fit.Goals as goal

pub returns : goal.returns
returns c = of_expressions
