use Rattle.std.proofs.Common.{sym, ap, ◌∙◌}
use Rattle.nl_bytes.specs.Tokens.{State}
use Rattle.edif_keywords.proofs.HeldTokens.{inside_mark}
use Rattle.edif_keywords.proofs.cursor.Cursor.take_mark.Goals as goal

pub take_mark-requires : goal.take_mark-requires
take_mark-requires c = let l = inside_mark _ _ _ _ _ c.self.view_is _ c.requires.1 in (_, l.0)

pub invariant_of-self : goal.invariant_of-self
invariant_of-self c =
    let l = inside_mark _ _ _ _ _ c.self.view_is _ c.requires.1 in
    (λ s. c.self.invariant.0 (sym (ap (λ (t : State). t.spent) c.take_mark.ensures.left) ∙ s), c.self.invariant.1, rw l.1 tt, rw l.1 tt)
