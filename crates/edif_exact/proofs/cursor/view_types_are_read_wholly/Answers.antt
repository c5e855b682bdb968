use Rattle.edif_keywords.specs.Grammar.{view_type}
use Rattle.edif_keywords.proofs.Live.{live_view_type}
use Rattle.edif_exact.proofs.Single.{closed_view_type}
use Rattle.edif_exact.proofs.Wholly.{wholly}
use Rattle.edif_exact.proofs.cursor.view_types_are_read_wholly.Goals as goal

pub returns : goal.returns
returns c = wholly view_type live_view_type closed_view_type
