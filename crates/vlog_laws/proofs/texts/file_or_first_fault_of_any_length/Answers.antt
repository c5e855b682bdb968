use Rattle.vlog_laws.proofs.AnyLength.{file_or_fault}
use Rattle.vlog_laws.proofs.texts.file_or_first_fault_of_any_length.Goals as goal

pub returns : goal.returns
returns c = file_or_fault
