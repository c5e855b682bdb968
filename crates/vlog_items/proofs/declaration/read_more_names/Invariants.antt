use Rattle.readers.specs.Readers.{room}
use Rattle.readers.proofs.Loops.{Collects}
use Rattle.std.specs.Prelude.{◌-◌, length}
use Rattle.vlog_values.specs.Values.{AreSome, IsName}
use Rattle.vlog_tokens.specs.Language.{vlog}
use Rattle.vlog_exprs.specs.Grammar.{name, mark, commas}
use Rattle.vlog_items.proofs.declaration.read_more_names.Given as goal

abbrev pub invariant-loop-names : goal.invariant-loop-names
invariant-loop-names g l = Collects vlog (commas name (mark l.close) l.fn.names) (commas name (mark l.close) l.names) (AreSome IsName l.fn.names → AreSome IsName l.names) (length l.names - length l.fn.names) l.cursor l.fn.cursor (g.S.Source.supply l.source) (g.S.Source.supply l.fn.source)

abbrev pub decreases-loop-names : goal.decreases-loop-names
decreases-loop-names g l = room l.cursor
