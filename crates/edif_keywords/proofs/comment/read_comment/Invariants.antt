use Rattle.std.specs.Prelude.{length}
use Rattle.edif_values.specs.Values.{AreStrings}
use Rattle.readers.specs.Readers.{room}
use Rattle.readers.proofs.Loops.{Collects}
use Rattle.edif_keywords.specs.Language.{edif}
use Rattle.edif_keywords.specs.Grammar.{comment, strings}
use Rattle.edif_keywords.proofs.comment.read_comment.Given as goal

abbrev pub invariant-loop-texts : goal.invariant-loop-texts
invariant-loop-texts g l = Collects edif comment (strings l.texts) (AreStrings l.texts) (length l.texts) l.cursor l.fn.cursor (g.S.Source.supply l.source) (g.S.Source.supply l.fn.source)

abbrev pub decreases-loop-texts : goal.decreases-loop-texts
decreases-loop-texts g l = room l.cursor
