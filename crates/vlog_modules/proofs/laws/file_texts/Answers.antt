use Rattle.vlog_modules.proofs.FileTexts.{file_texts}
use Rattle.vlog_modules.proofs.laws.file_texts.Goals as goal

pub returns : goal.returns
returns c = file_texts
