use Rattle.vlog_modules.proofs.GroupTexts.{group_texts}
use Rattle.vlog_modules.proofs.laws.parameter_texts.Goals as goal

pub returns : goal.returns
returns c = group_texts
