use Rattle.readers.specs.Readers.{room}
use Rattle.readers.proofs.Loops.{GoesContext}
use Rattle.edif_keywords.specs.Language.{edif}
use Rattle.edif_keywords.specs.Grammar.{map_items}
use Rattle.edif_keywords.proofs.cursor.Cursor.map_items.Given as goal

abbrev pub invariant-loop-self : goal.invariant-loop-self
invariant-loop-self g l = GoesContext edif (map_items l.with_aliases) l.self l.fn.self (g.S.Source.supply l.source) (g.S.Source.supply l.fn.source)

abbrev pub decreases-loop-self : goal.decreases-loop-self
decreases-loop-self g l = room l.self
