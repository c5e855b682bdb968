use Rattle.vlog_limits.proofs.Law.{first_fault}
use Rattle.vlog_limits.proofs.texts.first_fault_is_there.Goals as goal

pub returns : goal.returns
returns c = first_fault
