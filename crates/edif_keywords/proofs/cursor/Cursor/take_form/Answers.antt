use Rattle.std.proofs.Common.{sym, ap, ◌∙◌}
use Rattle.nl_bytes.specs.Tokens.{State}
use Rattle.edif_keywords.proofs.HeldForms.{inside_form}
use Rattle.edif_keywords.proofs.cursor.Cursor.take_form.Goals as goal

pub take_form-requires-clause-form : goal.take_form-requires-clause-form
take_form-requires-clause-form c = let l = inside_form _ _ _ _ _ c.self.view_is _ c.requires.form c.requires.some in l.0

pub invariant_of-self : goal.invariant_of-self
invariant_of-self c =
    let l = inside_form _ _ _ _ _ c.self.view_is _ c.requires.form c.requires.some in
    (λ s. c.self.invariant.0 (sym (ap (λ (t : State). t.spent) c.take_form.ensures.left) ∙ s), c.self.invariant.1, rw l.1 tt, rw l.1 tt)
