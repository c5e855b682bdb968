use Rattle.vlog_modules.proofs.AtMostOne.{one_file}
use Rattle.vlog_modules.proofs.laws.one_file.Goals as goal

pub returns : goal.returns
returns c = one_file
