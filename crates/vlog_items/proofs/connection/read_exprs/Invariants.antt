use Rattle.readers.specs.Readers.{room}
use Rattle.readers.proofs.Loops.{Collects}
use Rattle.std.specs.Prelude.{◌-◌, IfSome}
use Rattle.vlog_values.specs.Values.{AreSome, IsExpr}
use Rattle.vlog_values.specs.Sizes.{list_size, maybe_size}
use Rattle.vlog_tokens.specs.Language.{vlog}
use Rattle.vlog_exprs.specs.Grammar.{mark, commas, list, maybe_expr}
use Rattle.vlog_items.proofs.connection.read_exprs.Given as goal

abbrev pub invariant-loop-exprs : goal.invariant-loop-exprs
invariant-loop-exprs g l = Collects vlog (list maybe_expr (mark 41)) (commas maybe_expr (mark 41) l.exprs) (AreSome (λ e. IfSome e IsExpr) l.exprs) (list_size maybe_size l.exprs - 1) l.cursor l.fn.cursor (g.S.Source.supply l.source) (g.S.Source.supply l.fn.source)

abbrev pub decreases-loop-exprs : goal.decreases-loop-exprs
decreases-loop-exprs g l = room l.cursor
