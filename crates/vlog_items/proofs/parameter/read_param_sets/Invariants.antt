use Rattle.readers.specs.Readers.{room}
use Rattle.readers.proofs.Loops.{Collects}
use Rattle.std.specs.Prelude.{length}
use Rattle.vlog_values.specs.Values.{AreSome, IsParamSet}
use Rattle.vlog_tokens.specs.Language.{vlog}
use Rattle.vlog_exprs.specs.Grammar.{mark, commas, list}
use Rattle.vlog_items.specs.Grammar.{param_set}
use Rattle.vlog_items.proofs.parameter.read_param_sets.Given as goal

abbrev pub invariant-loop-sets : goal.invariant-loop-sets
invariant-loop-sets g l = Collects vlog (list param_set (mark 59)) (commas param_set (mark 59) l.sets) (AreSome IsParamSet l.sets) (length l.sets) l.cursor l.fn.cursor (g.S.Source.supply l.source) (g.S.Source.supply l.fn.source)

abbrev pub decreases-loop-sets : goal.decreases-loop-sets
decreases-loop-sets g l = room l.cursor
