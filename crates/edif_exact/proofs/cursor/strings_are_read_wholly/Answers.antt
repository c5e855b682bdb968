use Rattle.edif_keywords.specs.Grammar.{string}
use Rattle.edif_keywords.proofs.Live.{live_string}
use Rattle.edif_exact.proofs.Single.{closed_string}
use Rattle.edif_exact.proofs.Wholly.{wholly}
use Rattle.edif_exact.proofs.cursor.strings_are_read_wholly.Goals as goal

pub returns : goal.returns
returns c = wholly string live_string closed_string
