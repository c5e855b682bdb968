use Rattle.vlog_lexemes.proofs.Texts.{told_law}
use Rattle.vlog_lexemes.proofs.laws.told_tokens_are_lexemes.Goals as goal

pub returns : goal.returns
returns c = told_law
