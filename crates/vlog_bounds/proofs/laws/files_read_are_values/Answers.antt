use Rattle.vlog_bounds.proofs.Modules.{file_is_value}
use Rattle.vlog_bounds.proofs.laws.files_read_are_values.Goals as goal

pub returns : goal.returns
returns c = file_is_value
