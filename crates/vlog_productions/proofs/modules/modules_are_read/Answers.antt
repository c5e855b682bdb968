use Rattle.vlog_productions.proofs.ModuleTexts.{modules}
use Rattle.vlog_productions.proofs.modules.modules_are_read.Goals as goal

pub returns : goal.returns
returns c = modules
