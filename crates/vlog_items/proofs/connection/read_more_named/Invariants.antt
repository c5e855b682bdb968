use Rattle.readers.specs.Readers.{room}
use Rattle.readers.proofs.Loops.{Collects}
use Rattle.std.specs.Prelude.{◌-◌}
use Rattle.vlog_values.specs.Values.{AreSome, IsNamedConn}
use Rattle.vlog_values.specs.Sizes.{list_size, conn_size}
use Rattle.vlog_tokens.specs.Language.{vlog}
use Rattle.vlog_exprs.specs.Grammar.{mark, commas}
use Rattle.vlog_items.specs.Grammar.{named}
use Rattle.vlog_items.proofs.connection.read_more_named.Given as goal

abbrev pub invariant-loop-conns : goal.invariant-loop-conns
invariant-loop-conns g l = Collects vlog (commas named (mark 41) l.fn.conns) (commas named (mark 41) l.conns) (AreSome IsNamedConn l.conns) (list_size conn_size l.conns - list_size conn_size l.fn.conns) l.cursor l.fn.cursor (g.S.Source.supply l.source) (g.S.Source.supply l.fn.source)

abbrev pub decreases-loop-conns : goal.decreases-loop-conns
decreases-loop-conns g l = room l.cursor
