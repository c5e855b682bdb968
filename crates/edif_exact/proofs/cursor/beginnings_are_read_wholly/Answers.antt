use Rattle.edif_keywords.specs.Grammar.{begin}
use Rattle.edif_keywords.proofs.Live.{live_begin, closed_begin}
use Rattle.edif_exact.proofs.Wholly.{wholly}
use Rattle.edif_exact.proofs.cursor.beginnings_are_read_wholly.Goals as goal

pub returns : goal.returns
returns c = λ keyword allowed h. wholly (begin allowed) (live_begin keyword allowed h) (closed_begin allowed)
