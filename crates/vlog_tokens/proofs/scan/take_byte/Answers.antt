use Rattle.std.proofs.Common.{arith, refl, sym, ◌∙◌, subst, List, ℕ}
use Rattle.vlog_tokens.specs.SoFar.{IsSoFar}
use Rattle.vlog_tokens.proofs.Scanning.{ends_complete, ends_early, byte_full, byte_kept, byte_passed, byte_ends, byte_bad}
use Rattle.vlog_tokens.proofs.Lexemes.{byte_so_far, pass_so_far}
use Rattle.vlog_tokens.proofs.scan.take_byte.Goals as goal

pub returns-then-is_complete-clause-part : goal.returns-then-is_complete-clause-part
returns-then-is_complete-clause-part g c = ends_complete _ _ _ _ _ (rw c.in_default.is at c.requires.ahead) (sym c.is_complete.ensures ∙ c.if-is_complete.true)

pub returns-in_default-clause-part : goal.returns-in_default-clause-part
returns-in_default-clause-part g c =
    rw (c.refuse.ensures, c.place-here.ensures.place) (ends_early _ _ _ _ _ _ (rw c.in_default.is at c.requires.ahead) (sym c.is_complete.ensures ∙ c.if-is_complete.false))

pub returns-then-len-most_of-clause-part : goal.returns-then-len-most_of-clause-part
returns-then-len-most_of-clause-part g c =
    rw (c.refuse-then-len-most_of.ensures, c.place-here.ensures.place)
    (byte_full _ c.in-Keep.then _ _ _ _ _ c.in-Some.byte (rw c.in-Some.is at c.requires.ahead) (sym c.next_step.ensures ∙ c.in-Keep.is) (omega (arith, c.len.ensures, c.most_of.ensures, c.if-len-most_of.true)))

pub returns-in_ok-push-in-Keep-clause-part : goal.returns-in_ok-push-in-Keep-clause-part
returns-in_ok-push-in-Keep-clause-part g c =
    let ahead = rw c.in-Some.is at c.requires.ahead in
    byte_kept _ c.in-Keep.then _ _ _ _ (record { tail = ahead.0; ahead = ahead.1; held = c.advance.ensures.held; place = c.advance.ensures.place }) (sym c.next_step.ensures ∙ c.in-Keep.is)
    (omega (arith, c.len.ensures, c.most_of.ensures, c.if-len-most_of.false)) c.in_ok-push-in-Keep.ensures.items

pub returns-in-Pass-clause-part : goal.returns-in-Pass-clause-part
returns-in-Pass-clause-part g c =
    let ahead = rw c.in-Some.is at c.requires.ahead in
    byte_passed _ c.in-Pass.then _ _ _ _ (record { tail = ahead.0; ahead = ahead.1; held = c.advance-in-Pass.ensures.held; place = c.advance-in-Pass.ensures.place }) (sym c.next_step.ensures ∙ c.in-Pass.is) refl

pub returns-in-Ends-clause-part : goal.returns-in-Ends-clause-part
returns-in-Ends-clause-part g c = byte_ends _ _ _ _ _ c.in-Some.byte (rw c.in-Some.is at c.requires.ahead) (sym c.next_step.ensures ∙ c.in-Ends.is)

pub returns-in-Bad-clause-part : goal.returns-in-Bad-clause-part
returns-in-Bad-clause-part g c =
    rw (c.refuse-in-Bad.ensures, c.place-here.ensures.place) (byte_bad _ _ _ _ _ _ c.in-Some.byte (rw c.in-Some.is at c.requires.ahead) (sym c.next_step.ensures ∙ c.in-Bad.is))

pub returns-in_ok-push-in-Keep-clause-so_far : goal.returns-in_ok-push-in-Keep-clause-so_far
returns-in_ok-push-in-Keep-clause-so_far g c = λ h.
    subst (λ (xs : List ℕ). IsSoFar c.in-Keep.then xs) (sym c.in_ok-push-in-Keep.ensures.items)
    (byte_so_far _ c.in-Keep.then _ c.in-Some.byte (sym c.next_step.ensures ∙ c.in-Keep.is) h (omega (arith, c.len.ensures, c.most_of.ensures, c.if-len-most_of.false)))

pub returns-in-Pass-clause-so_far : goal.returns-in-Pass-clause-so_far
returns-in-Pass-clause-so_far g c = λ h. pass_so_far _ c.in-Pass.then _ c.in-Some.byte (sym c.next_step.ensures ∙ c.in-Pass.is) h
