use Rattle.std.proofs.Common.{◌≡◌, List, ℕ, ◌++◌, arith, ap, sym, subst, ◌∙◌}
use Rattle.std.proofs.lemmas.Result.{err_from_is_err_and}
use Rattle.nl_base.specs.declared.place.Place.{Place}
use Rattle.vlog_tokens.specs.Scanning.{kept}
use Rattle.vlog_tokens.specs.SoFar.{IsSoFar}
use Rattle.nl_bytes.proofs.Uses.{offset_grows}
use Rattle.vlog_tokens.proofs.Parts.{part_then, part_err}
use Rattle.vlog_tokens.proofs.Reading.{begun_part}
use Rattle.vlog_tokens.proofs.lexeme.scan.Goals as goal

pub returns-in_err-scanned-clause-part : goal.returns-in_err-scanned-clause-part
returns-in_err-scanned-clause-part g c =
    let p = err_from_is_err_and c.from_residual-in_err-scanned.result c.from_residual-in_err-scanned.ensures.1 in
    let text : c.keep_first.new.text.items ≡ kept c.args.begins c.args.byte = c.in_ok-keep_first.ensures ∙ ap (λ (xs : List ℕ). xs ++ kept c.args.begins c.args.byte) c.in_ok-text.ensures.items in
    rw (p.1, p.2) (part_err (part_then (begun_part c.args.begins c.args.byte _ _ (record { tail = c.requires.ahead.0; ahead = c.requires.ahead.1; held = c.advance.ensures.held; place = c.advance.ensures.place }) text)
    (rw c.place-place.ensures.place at c.in_err-scanned.ensures.part)) _)

pub returns-clause-part : goal.returns-clause-part
returns-clause-part g c =
    let text : c.keep_first.new.text.items ≡ kept c.args.begins c.args.byte = c.in_ok-keep_first.ensures ∙ ap (λ (xs : List ℕ). xs ++ kept c.args.begins c.args.byte) c.in_ok-text.ensures.items in
    part_then (begun_part c.args.begins c.args.byte _ _ (record { tail = c.requires.ahead.0; ahead = c.requires.ahead.1; held = c.advance.ensures.held; place = c.advance.ensures.place }) text)
    (rw c.place-place.ensures.place at c.in_ok-scanned.ensures.part)

pub returns-clause-some : goal.returns-clause-some
returns-clause-some g c = omega (arith, ap (λ (q : Place). q.offset) c.advance.ensures.place, offset_grows c.in_ok-scanned.ensures.part.uses)

pub returns-clause-so_far : goal.returns-clause-so_far
returns-clause-so_far g c =
    let text : c.keep_first.new.text.items ≡ kept c.args.begins c.args.byte = c.in_ok-keep_first.ensures ∙ ap (λ (xs : List ℕ). xs ++ kept c.args.begins c.args.byte) c.in_ok-text.ensures.items in
    λ h. c.in_ok-scanned.ensures.so_far (subst (λ (xs : List ℕ). IsSoFar c.args.begins xs) (sym text) h)
