use Rattle.edif_keywords.specs.Grammar.{closing}
use Rattle.edif_keywords.proofs.Live.{live_closing, closed_closing}
use Rattle.edif_exact.proofs.Wholly.{wholly}
use Rattle.edif_exact.proofs.cursor.ends_are_read_wholly.Goals as goal

pub returns : goal.returns
returns c = wholly closing live_closing closed_closing
