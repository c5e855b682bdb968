use Rattle.vlog_exprs.specs.Reasons.{const_start}
use Rattle.vlog_exprs.proofs.OneToken.{one_says, one_fails}
use Rattle.vlog_exprs.proofs.Known.{value_says, const_start_is}
use Rattle.vlog_exprs.proofs.constant.take_const_token.Goals as goal

pub returns-in_err-place-clause-reads : goal.returns-in_err-place-clause-reads
returns-in_err-place-clause-reads g c = one_fails (λ _ x. const_start x.token) _ _ _ _ _ _ c.in_err-place.ensures.reads c.from_residual.ensures.1

pub returns-clause-reads : goal.returns-clause-reads
returns-clause-reads g c = one_says (λ _ x. const_start x.token) _ _ _ _ _ c.in_ok-place.ensures.reads c.in_ok-place.ensures.near _ _ _ c.const_start-said.ensures c.judged.ensures.answer c.judged.ensures.left

pub returns-clause-value : goal.returns-clause-value
returns-clause-value g c = value_says const_start _ c.in_ok-place.field-0.token (const_start_is _ c.in_ok-place.ensures.proper) _ _ _ _ c.const_start-said.ensures c.judged.ensures.answer
