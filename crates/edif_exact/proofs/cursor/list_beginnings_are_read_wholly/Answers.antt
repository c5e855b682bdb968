use Rattle.edif_keywords.specs.Grammar.{opening}
use Rattle.edif_keywords.proofs.Live.{live_opening, closed_opening}
use Rattle.edif_exact.proofs.Wholly.{wholly}
use Rattle.edif_exact.proofs.cursor.list_beginnings_are_read_wholly.Goals as goal

pub returns : goal.returns
returns c = wholly opening live_opening closed_opening
