use Rattle.std.specs.Prelude.{[]}
use Rattle.edif_values.specs.Sizes.{list_size, tail_size}
use Rattle.edif_values.specs.Values.{ArePropTails}
use Rattle.readers.specs.Readers.{room}
use Rattle.readers.proofs.Loops.{Collects}
use Rattle.edif_keywords.specs.Language.{edif}
use Rattle.edif_names.specs.Grammar.{tails}
use Rattle.edif_names.proofs.property.read_tails.Given as goal

abbrev pub invariant-loop-tail : goal.invariant-loop-tail
invariant-loop-tail g l = Collects edif (tails []) (tails l.tail) (ArePropTails l.tail) (list_size tail_size l.tail) l.cursor l.fn.cursor (g.S.Source.supply l.source) (g.S.Source.supply l.fn.source)

abbrev pub decreases-loop-tail : goal.decreases-loop-tail
decreases-loop-tail g l = room l.cursor
