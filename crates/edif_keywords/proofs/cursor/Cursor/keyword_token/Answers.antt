use Rattle.std.proofs.Common.{◌∙◌, ap, ◌≡◌, sym, true}
use Rattle.edif_values.specs.Keywords.{has}
use Rattle.edif_keywords.specs.Reasons.{keyword_of}
use Rattle.edif_keywords.proofs.Kept.{keyword_is}
use Rattle.edif_keywords.proofs.OneToken.{one_says, one_fails, good_says}
use Rattle.edif_keywords.proofs.cursor.Cursor.keyword_token.Goals as goal

pub returns-in_err-place-clause-reads : goal.returns-in_err-place-clause-reads
returns-in_err-place-clause-reads g c = one_fails (λ table x. keyword_of c.args.allowed.now table x.token) _ _ _ _ _ _ c.in_err-place.ensures.reads c.from_residual.ensures.1

pub returns-clause-reads : goal.returns-clause-reads
returns-clause-reads g c =
    let table = ap (λ r. r.context) c.self.view_is ∙ c.in_ok-place.ensures.reads.value.1 in
    one_says (λ table x. keyword_of c.args.allowed.now table x.token) _ _ _ _ _ c.in_ok-place.ensures.reads c.in_ok-place.ensures.near _ _ _
    (c.keyword_of-said.ensures ∙ ap (λ t. keyword_of c.args.allowed.now t c.in_ok-place.field-0.token) table) c.judged.ensures.answer c.judged.ensures.left

pub returns-clause-allowed : goal.returns-clause-allowed
returns-clause-allowed g c =
    rw c.judged.ensures.answer (good_says (λ q. has c.args.allowed.now q ≡ true) _ _ _ (λ q e. keyword_is c.args.allowed.now _ c.in_ok-place.field-0.token q (sym c.keyword_of-said.ensures ∙ e)))
