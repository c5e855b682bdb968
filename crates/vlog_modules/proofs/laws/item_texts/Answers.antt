use Rattle.vlog_modules.proofs.FileTexts.{item_texts}
use Rattle.vlog_modules.proofs.laws.item_texts.Goals as goal

pub returns : goal.returns
returns c = item_texts
