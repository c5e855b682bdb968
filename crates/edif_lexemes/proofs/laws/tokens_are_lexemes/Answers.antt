use Rattle.edif_lexemes.proofs.Texts.{tokens_law}
use Rattle.edif_lexemes.proofs.laws.tokens_are_lexemes.Goals as goal

pub returns : goal.returns
returns c = tokens_law
