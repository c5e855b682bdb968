use Rattle.edif_keywords.specs.Reasons.{closing_of}
use Rattle.edif_keywords.proofs.OneToken.{one_says, one_fails}
use Rattle.edif_keywords.proofs.cursor.Cursor.finish_token.Goals as goal

pub returns-in_err-place : goal.returns-in_err-place
returns-in_err-place g c = one_fails (λ _ x. closing_of x.token) _ _ _ _ _ _ c.in_err-place.ensures.reads c.from_residual.ensures.1

pub returns : goal.returns
returns g c = one_says (λ _ x. closing_of x.token) _ _ _ _ _ c.in_ok-place.ensures.reads c.in_ok-place.ensures.near _ _ _ c.closing_of.ensures c.judged.ensures.answer c.judged.ensures.left
