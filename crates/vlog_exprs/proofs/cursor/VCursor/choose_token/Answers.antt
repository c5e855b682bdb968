use Rattle.vlog_exprs.specs.Reasons.{choice_of, rows}
use Rattle.vlog_exprs.proofs.OneToken.{one_says, one_fails}
use Rattle.vlog_exprs.proofs.cursor.VCursor.choose_token.Goals as goal

pub returns-in_err-place : goal.returns-in_err-place
returns-in_err-place g c = one_fails (λ _ x. choice_of (rows c.args.words.now) x.token) _ _ _ _ _ _ c.in_err-place.ensures.reads c.from_residual.ensures.1

pub returns : goal.returns
returns g c = one_says (λ _ x. choice_of (rows c.args.words.now) x.token) _ _ _ _ _ c.in_ok-place.ensures.reads c.in_ok-place.ensures.near _ _ _ c.choice_of-said.ensures c.judged.ensures.answer c.judged.ensures.left
