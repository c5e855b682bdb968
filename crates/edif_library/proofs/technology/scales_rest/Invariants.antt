use Rattle.std.specs.Prelude.{[], length}
use Rattle.std.specs.List.{AllByRecursion}
use Rattle.edif_values.specs.Values.{IsScale}
use Rattle.readers.specs.Readers.{room}
use Rattle.readers.proofs.Loops.{Collects}
use Rattle.edif_keywords.specs.Language.{edif}
use Rattle.edif_library.specs.Grammar.{scales_rest}
use Rattle.edif_library.proofs.technology.scales_rest.Given as goal

abbrev pub invariant-loop-items : goal.invariant-loop-items
invariant-loop-items g l = Collects edif (scales_rest []) (scales_rest l.items) (AllByRecursion IsScale l.items) (length l.items) l.cursor l.fn.cursor (g.S.Source.supply l.source) (g.S.Source.supply l.fn.source)

abbrev pub decreases-loop-items : goal.decreases-loop-items
decreases-loop-items g l = room l.cursor
