use Rattle.std.proofs.Common.{◌∙◌, sym, ap, length}
use Rattle.vlog_exprs.specs.Reasons.{at_digits}
use Rattle.vlog_exprs.proofs.HeldLiterals.{digits_some, digits_literal, digits_fail}
use Rattle.vlog_exprs.proofs.constant.takes_digits.Goals as goal

pub take_digits-requires-clause-base : goal.take_digits-requires-clause-base
take_digits-requires-clause-base g c = sym c.in-Some.ensures.base

pub returns-in_default-copy-clause-reads : goal.returns-in_default-copy-clause-reads
returns-in_default-copy-clause-reads g c =
    digits_fail (λ _ x. at_digits c.args.number x.token) c.args.cursor.now _ c.in-Some.base (sym c.in-Some.ensures.base) _ _ c.no_memory.ensures.error c.no_memory.ensures.spoilt

pub returns-then-count-gt0-clause-reads : goal.returns-then-count-gt0-clause-reads
returns-then-count-gt0-clause-reads g c =
    digits_some c.args.cursor.now _ c.in-Some.base _ (sym c.in-Some.ensures.base) c.if-count-gt0.true (ap (λ xs. length xs) c.held_digits-held.ensures) c.in-Some.ensures.held c.args.number (sym c.is_size.ensures ∙ c.if-is_size.true)
    c.in-Ok.digits (c.in-Ok.ensures ∙ c.held_digits-held.ensures) _ c.unsigned.ensures c.take_digits.ensures _

pub returns-then-count-gt0-clause-value : goal.returns-then-count-gt0-clause-value
returns-then-count-gt0-clause-value g c =
    digits_literal c.args.cursor.now c.args.cursor.now c.in-Some.base _ (sym c.in-Some.ensures.base) c.if-count-gt0.true (ap (λ xs. length xs) c.held_digits-held.ensures) c.in-Some.ensures.held c.args.number (sym c.is_size.ensures ∙ c.if-is_size.true)
    c.in-Ok.digits (c.in-Ok.ensures ∙ c.held_digits-held.ensures) _ c.unsigned.ensures
