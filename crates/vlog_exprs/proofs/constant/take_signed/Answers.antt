use Rattle.vlog_exprs.specs.Reasons.{signed_of}
use Rattle.vlog_exprs.proofs.OneToken.{one_says, one_fails}
use Rattle.vlog_exprs.proofs.Known.{value_says, signed_is}
use Rattle.vlog_exprs.proofs.constant.take_signed.Goals as goal

pub returns-in_err-place-clause-reads : goal.returns-in_err-place-clause-reads
returns-in_err-place-clause-reads g c = one_fails (λ _ x. signed_of c.args.negative x.token) _ _ _ _ _ _ c.in_err-place.ensures.reads c.from_residual.ensures.1

pub returns-clause-reads : goal.returns-clause-reads
returns-clause-reads g c = one_says (λ _ x. signed_of c.args.negative x.token) _ _ _ _ _ c.in_ok-place.ensures.reads c.in_ok-place.ensures.near _ _ _ c.signed_of-said.ensures c.judged.ensures.answer c.judged.ensures.left

pub returns-clause-value : goal.returns-clause-value
returns-clause-value g c = value_says (signed_of c.args.negative) _ _ (signed_is c.args.negative _ c.in_ok-place.ensures.proper) _ _ _ _ c.signed_of-said.ensures c.judged.ensures.answer
