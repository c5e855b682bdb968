use Rattle.vlog_laws.proofs.AnyLength.{one_file}
use Rattle.vlog_laws.proofs.texts.one_file_of_any_length.Goals as goal

pub returns : goal.returns
returns c = one_file
