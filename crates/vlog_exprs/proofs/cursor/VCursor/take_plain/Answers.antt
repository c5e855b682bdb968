use Rattle.std.proofs.Common.{sym, ap, ◌∙◌}
use Rattle.nl_bytes.specs.Tokens.{State}
use Rattle.vlog_exprs.proofs.HeldPlains.{inside_plain}
use Rattle.vlog_exprs.proofs.cursor.VCursor.take_plain.Goals as goal

pub take_plain-requires : goal.take_plain-requires
take_plain-requires c = let l = inside_plain _ _ _ _ _ c.self.view_is _ c.requires.1 in (_, l.0)

pub invariant_of-self : goal.invariant_of-self
invariant_of-self c =
    let l = inside_plain _ _ _ _ _ c.self.view_is _ c.requires.1 in
    (λ s. c.self.invariant.0 (sym (ap (λ (t : State). t.spent) c.take_plain.ensures.left) ∙ s), c.self.invariant.1, rw l.1 tt, rw l.1 tt)
