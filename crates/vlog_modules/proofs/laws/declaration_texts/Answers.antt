use Rattle.vlog_modules.proofs.HeaderTexts.{decl_texts}
use Rattle.vlog_modules.proofs.laws.declaration_texts.Goals as goal

pub returns : goal.returns
returns c = decl_texts
