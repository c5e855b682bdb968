use Rattle.vlog_productions.proofs.ModuleTexts.{files, whole_files}
use Rattle.vlog_productions.proofs.modules.files_are_read.Goals as goal

pub returns-clause-file : goal.returns-clause-file
returns-clause-file c = files

pub returns-clause-input : goal.returns-clause-input
returns-clause-input c = whole_files
