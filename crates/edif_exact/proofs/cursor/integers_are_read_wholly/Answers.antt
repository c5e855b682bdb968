use Rattle.edif_keywords.specs.Grammar.{integer}
use Rattle.edif_keywords.proofs.Live.{live_integer}
use Rattle.edif_exact.proofs.Single.{closed_integer}
use Rattle.edif_exact.proofs.Wholly.{wholly}
use Rattle.edif_exact.proofs.cursor.integers_are_read_wholly.Goals as goal

pub returns : goal.returns
returns c = wholly integer live_integer closed_integer
