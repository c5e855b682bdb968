use Rattle.vlog_exprs.specs.Reasons.{bound_of}
use Rattle.vlog_exprs.proofs.OneToken.{one_says, one_fails}
use Rattle.vlog_exprs.proofs.bound.read_bound_number.Goals as goal

pub returns-in_err-place-clause-reads : goal.returns-in_err-place-clause-reads
returns-in_err-place-clause-reads g c = one_fails (λ _ x. bound_of x.token) _ _ _ _ _ _ c.in_err-place.ensures.reads c.from_residual.ensures.1

pub returns-clause-reads : goal.returns-clause-reads
returns-clause-reads g c = one_says (λ _ x. bound_of x.token) _ _ _ _ _ c.in_ok-place.ensures.reads c.in_ok-place.ensures.near _ _ _ c.bound_of-said.ensures.said c.judged.ensures.answer c.judged.ensures.left
