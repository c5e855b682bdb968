use Rattle.std.proofs.Common.{refl}
use Rattle.vlog_exprs.specs.Grammar as grammar
use Rattle.vlog_exprs.specs.Reasons.{expr_start}
use Rattle.vlog_exprs.proofs.HeldWords.{name_says, name_fails, reads_still}
use Rattle.vlog_exprs.proofs.expr.take_expr_start.Goals as goal

pub returns-in_err-held-clause-reads : goal.returns-in_err-held-clause-reads
returns-in_err-held-clause-reads g c = name_fails _ _ _ (λ _ x. expr_start c.args.left c.args.levels x.token) _ _ c.in_err-held.ensures.held c.from_residual.ensures.1

pub returns-in-Some-clause-reads : goal.returns-in-Some-clause-reads
returns-in-Some-clause-reads g c = name_says _ _ _ (expr_start c.args.left c.args.levels) c.in-Some.text _ (rw c.in-Some.is at c.in_ok-held.ensures.held) refl

pub returns-clause-reads : goal.returns-clause-reads
returns-clause-reads g c = reads_still (grammar.expr_start c.args.left c.args.levels) (rw c.in_default.is at c.in_ok-held.ensures.held) c.take_expr_token.ensures.reads
