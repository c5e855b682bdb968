use Rattle.edif_keywords.specs.Grammar.{word}
use Rattle.edif_keywords.proofs.Live.{live_word}
use Rattle.edif_exact.proofs.Single.{closed_word}
use Rattle.edif_exact.proofs.Wholly.{wholly}
use Rattle.edif_exact.proofs.cursor.words_are_read_wholly.Goals as goal

pub returns : goal.returns
returns c = wholly word live_word closed_word
