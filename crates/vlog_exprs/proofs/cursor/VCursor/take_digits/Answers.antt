use Rattle.std.proofs.Common.{sym, ap, ◌∙◌, length}
use Rattle.nl_bytes.specs.Bytes.{Window}
use Rattle.nl_bytes.specs.Tokens.{State}
use Rattle.vlog_tokens.specs.HeldLiterals.{held_digits}
use Rattle.vlog_exprs.proofs.HeldLiterals.{inside_base}
use Rattle.vlog_exprs.proofs.cursor.VCursor.take_digits.Goals as goal

pub take_digits-requires-clause-base : goal.take_digits-requires-clause-base
take_digits-requires-clause-base c = (inside_base _ _ _ _ _ c.self.view_is _ c.requires.base).0

pub invariant_of-self : goal.invariant_of-self
invariant_of-self c =
    let l = inside_base _ _ _ _ _ c.self.view_is _ c.requires.base in
    (λ s. c.self.invariant.0 (sym (ap (λ (t : State). t.spent) c.take_digits.ensures.left) ∙ s), c.self.invariant.1, rw l.1 tt, rw l.1 tt)
