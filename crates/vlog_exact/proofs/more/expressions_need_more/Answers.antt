use Rattle.std.proofs.Common.{refl}
use Rattle.vlog_exprs.specs.Grammar.{expr}
use Rattle.vlog_exprs.proofs.Live.{live_expr}
use Rattle.vlog_exprs.proofs.Clear.{clear_expr}
use Rattle.vlog_laws.specs.Exact.{EndsExpression}
use Rattle.vlog_exact.proofs.Wholly.{more}
use Rattle.vlog_exact.proofs.more.expressions_need_more.Goals as goal

pub returns : goal.returns
returns c = λ left room. more (expr left room) EndsExpression (live_expr left room)
    (clear_expr left room (λ _ x. EndsExpression x) (λ e x n. record { no_bracket = n.no_bracket; no_digits = n.no_digits })) (record { no_bracket = refl; no_digits = λ n. refl })
