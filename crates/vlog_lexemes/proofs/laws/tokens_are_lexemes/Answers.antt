use Rattle.vlog_lexemes.proofs.Texts.{whole_law}
use Rattle.vlog_lexemes.proofs.laws.tokens_are_lexemes.Goals as goal

pub returns : goal.returns
returns c = whole_law
