use Rattle.vlog_exprs.specs.Reasons.{expr_start}
use Rattle.vlog_exprs.proofs.OneToken.{one_says, one_fails}
use Rattle.vlog_exprs.proofs.Known.{value_says, start_is}
use Rattle.vlog_exprs.proofs.expr.take_expr_token.Goals as goal

pub returns-in_err-place-clause-reads : goal.returns-in_err-place-clause-reads
returns-in_err-place-clause-reads g c = one_fails (λ _ x. expr_start c.args.left c.args.levels x.token) _ _ _ _ _ _ c.in_err-place.ensures.reads c.from_residual.ensures.1

pub returns-clause-reads : goal.returns-clause-reads
returns-clause-reads g c = one_says (λ _ x. expr_start c.args.left c.args.levels x.token) _ _ _ _ _ c.in_ok-place.ensures.reads c.in_ok-place.ensures.near _ _ _ c.expr_start-said.ensures c.judged.ensures.answer c.judged.ensures.left

pub returns-clause-value : goal.returns-clause-value
returns-clause-value g c = value_says (expr_start c.args.left c.args.levels) _ c.in_ok-place.field-0.token (start_is c.args.left c.args.levels _ c.in_ok-place.ensures.proper) _ _ _ _ c.expr_start-said.ensures c.judged.ensures.answer
