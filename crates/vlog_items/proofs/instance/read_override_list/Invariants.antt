use Rattle.readers.specs.Readers.{room}
use Rattle.readers.proofs.Loops.{Collects}
use Rattle.std.specs.Prelude.{length}
use Rattle.vlog_values.specs.Values.{AreSome, IsParamSet}
use Rattle.vlog_tokens.specs.Language.{vlog}
use Rattle.vlog_exprs.specs.Grammar.{mark, commas, list}
use Rattle.vlog_items.specs.Grammar.{override_set}
use Rattle.vlog_items.proofs.instance.read_override_list.Given as goal

abbrev pub invariant-loop-sets : goal.invariant-loop-sets
invariant-loop-sets g l = Collects vlog (list override_set (mark 41)) (commas override_set (mark 41) l.sets) (AreSome IsParamSet l.sets) (length l.sets) l.cursor l.fn.cursor (g.S.Source.supply l.source) (g.S.Source.supply l.fn.source)

abbrev pub decreases-loop-sets : goal.decreases-loop-sets
decreases-loop-sets g l = room l.cursor
