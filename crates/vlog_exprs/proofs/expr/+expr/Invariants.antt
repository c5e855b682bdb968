use Rattle.std.proofs.Common.{◌+◌, ◌-◌, ◌*◌, [], ◌∷◌}
use Rattle.readers.specs.Readers.{room}
use Rattle.readers.proofs.Loops.{Collects}
use Rattle.vlog_tokens.specs.Language.{vlog}
use Rattle.vlog_values.specs.Values.{AreSome}
use Rattle.vlog_values.specs.Sizes.{list_size, expr_size}
use Rattle.vlog_exprs.specs.Known.{IsGood}
use Rattle.vlog_exprs.specs.Grammar.{mark, commas, expr}
use Rattle.vlog_exprs.proofs.expr.+expr.Given as goal

abbrev pub decreases-read_inside : goal.decreases-read_inside
decreases-read_inside g l = 7 * l.levels

abbrev pub decreases-read_rest : goal.decreases-read_rest
decreases-read_rest g l = 7 * l.levels + 1

abbrev pub decreases-read_expr_in : goal.decreases-read_expr_in
decreases-read_expr_in g l = 7 * l.levels + 2

abbrev pub decreases-read_list : goal.decreases-read_list
decreases-read_list g l = 7 * l.levels + 3

abbrev pub decreases-read_replicated : goal.decreases-read_replicated
decreases-read_replicated g l = 7 * l.levels + 4

abbrev pub decreases-read_counted : goal.decreases-read_counted
decreases-read_counted g l = 7 * l.levels + 5

abbrev pub decreases-read_braced : goal.decreases-read_braced
decreases-read_braced g l = 7 * l.levels + 6

abbrev pub invariant-read_list-loop-exprs : goal.invariant-read_list-loop-exprs
invariant-read_list-loop-exprs g l =
    Collects vlog (commas (expr l.left l.levels) (mark 125) (l.fn.first ∷ [])) (commas (expr l.left l.levels) (mark 125) l.exprs) (AreSome (IsGood l.left l.levels) l.exprs) (list_size expr_size l.exprs - (expr_size l.fn.first + 1)) l.cursor l.fn.cursor (g.S.Source.supply l.source) (g.S.Source.supply l.fn.source)

abbrev pub decreases-read_list-loop-exprs : goal.decreases-read_list-loop-exprs
decreases-read_list-loop-exprs g l = room l.cursor
