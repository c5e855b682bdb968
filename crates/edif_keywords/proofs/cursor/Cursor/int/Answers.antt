use Rattle.std.proofs.Common.{◌∙◌, sym}
use Rattle.edif_values.specs.Values.{IsInteger}
use Rattle.edif_keywords.specs.Reasons.{integer_of}
use Rattle.edif_keywords.proofs.Kept.{integer_is}
use Rattle.edif_keywords.proofs.OneToken.{one_says, one_fails, good_says}
use Rattle.edif_keywords.proofs.cursor.Cursor.int.Goals as goal

pub returns-in_err-place-clause-reads : goal.returns-in_err-place-clause-reads
returns-in_err-place-clause-reads g c = one_fails (λ _ x. integer_of x.token) _ _ _ _ _ _ c.in_err-place.ensures.reads c.from_residual.ensures.1

pub returns-clause-reads : goal.returns-clause-reads
returns-clause-reads g c = one_says (λ _ x. integer_of x.token) _ _ _ _ _ c.in_ok-place.ensures.reads c.in_ok-place.ensures.near _ _ _ c.integer_of.ensures c.judged.ensures.answer c.judged.ensures.left

pub returns-clause-value : goal.returns-clause-value
returns-clause-value g c = rw c.judged.ensures.answer (good_says IsInteger _ _ _ (λ v e. integer_is c.in_ok-place.field-0.token v c.in_ok-place.ensures.proper (sym c.integer_of.ensures ∙ e)))
