use Rattle.vlog_modules.proofs.AtMostOne.{one_first_fault}
use Rattle.vlog_modules.proofs.laws.one_first_fault.Goals as goal

pub returns : goal.returns
returns c = one_first_fault
