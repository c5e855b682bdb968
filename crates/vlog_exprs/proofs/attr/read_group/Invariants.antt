use Rattle.std.proofs.Common.{◌-◌, length}
use Rattle.readers.specs.Readers.{room}
use Rattle.readers.proofs.Loops.{Collects}
use Rattle.vlog_tokens.specs.Language.{vlog}
use Rattle.vlog_values.specs.Values.{AreAttrs}
use Rattle.vlog_exprs.specs.Grammar.{commas, attr, group_end, group}
use Rattle.vlog_exprs.proofs.attr.read_group.Given as goal

abbrev pub invariant-loop-attrs : goal.invariant-loop-attrs
invariant-loop-attrs g l = Collects vlog (group l.fn.attrs) (commas attr group_end l.attrs) (AreAttrs l.attrs) (length l.attrs - length l.fn.attrs) l.cursor l.fn.cursor (g.S.Source.supply l.source) (g.S.Source.supply l.fn.source)

abbrev pub decreases-loop-attrs : goal.decreases-loop-attrs
decreases-loop-attrs g l = room l.cursor
