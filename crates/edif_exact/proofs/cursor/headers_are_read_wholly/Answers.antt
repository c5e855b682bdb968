use Rattle.edif_keywords.specs.Grammar.{header}
use Rattle.edif_keywords.proofs.Live.{live_header, closed_header}
use Rattle.edif_exact.proofs.Wholly.{wholly}
use Rattle.edif_exact.proofs.cursor.headers_are_read_wholly.Goals as goal

pub returns : goal.returns
returns c = λ table. wholly (header table) (live_header table) (closed_header table)
