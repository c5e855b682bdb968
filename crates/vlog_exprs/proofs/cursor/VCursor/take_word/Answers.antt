use Rattle.std.proofs.Common.{sym, ap, ◌∙◌}
use Rattle.nl_bytes.specs.Tokens.{State}
use Rattle.vlog_exprs.proofs.HeldWords.{inside_word}
use Rattle.vlog_exprs.proofs.cursor.VCursor.take_word.Goals as goal

pub take_word-requires-clause-word : goal.take_word-requires-clause-word
take_word-requires-clause-word c = let l = inside_word _ _ _ _ _ c.self.view_is _ c.requires.some c.requires.word in l.0

pub invariant_of-self : goal.invariant_of-self
invariant_of-self c =
    let l = inside_word _ _ _ _ _ c.self.view_is _ c.requires.some c.requires.word in
    (λ s. c.self.invariant.0 (sym (ap (λ (t : State). t.spent) c.take_word.ensures.left) ∙ s), c.self.invariant.1, rw l.1 tt, rw l.1 tt)
