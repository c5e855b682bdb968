use Rattle.vlog_goes_on.proofs.Law.{before_fault}
use Rattle.vlog_goes_on.proofs.texts.texts_go_on_before_a_fault.Goals as goal

pub returns : goal.returns
returns c = before_fault
