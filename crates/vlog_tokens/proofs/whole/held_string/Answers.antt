use Rattle.std.proofs.Common.{◌≡◌, List, ℕ, ◌∙◌, ap, sym, drop, take, length, length-drop, arith}
use Rattle.std.proofs.lemmas.Result.{err_from_is_err_and}
use Rattle.vlog_tokens.specs.Held.{quoted_length}
use Rattle.vlog_tokens.proofs.Held.{found_nothing}
use Rattle.vlog_tokens.proofs.HeldStrings.{quoted, quoted_each, quoted_room, string_found}
use Rattle.vlog_tokens.proofs.whole.held_string.Goals as goal

pub split_at-requires-2 : goal.split_at-requires-2
split_at-requires-2 c =
    let q = quoted _ _ c.requires.whole in
    let rest : c.split_at.result.1.now ≡ drop 1 c.args.bytes.now.held = c.split_at.ensures.back ∙ ap (λ (xs : List ℕ). drop 1 xs) c.held.ensures in
    omega (arith, q.more, ap (λ (xs : List ℕ). length xs) rest)

pub returns-in_err-text-clause-finds : goal.returns-in_err-text-clause-finds
returns-in_err-text-clause-finds c =
    let p = err_from_is_err_and c.from_residual.result c.from_residual.ensures.1 in
    rw (p.1, p.2) (λ left. found_nothing _ left)

pub pass-requires-clause-held : goal.pass-requires-clause-held
pass-requires-clause-held c =
    let tail = ap (λ (xs : List ℕ). drop 1 xs) c.requires.ahead.1 in
    quoted_room _ _ c.args.count c.requires.ahead.1 (sym (ap quoted_length tail) ∙ c.requires.whole)

pub pass-requires-clause-each : goal.pass-requires-clause-each
pass-requires-clause-each c =
    let tail = ap (λ (xs : List ℕ). drop 1 xs) c.requires.ahead.1 in
    quoted_each _ _ c.args.count c.requires.ahead.1 (sym (ap quoted_length tail) ∙ c.requires.whole)

pub returns-clause-finds : goal.returns-clause-finds
returns-clause-finds c =
    let tail = ap (λ (xs : List ℕ). drop 1 xs) c.requires.ahead.1 in
    let rest : c.split_at.result.1.now ≡ c.requires.ahead.0 = c.split_at.ensures.back ∙ ap (λ (xs : List ℕ). drop 1 xs) c.held.ensures ∙ tail in
    let text : c.in_ok-text.text ≡ take c.args.count c.requires.ahead.0 = c.in_ok-text.ensures ∙ c.split_at-2.ensures.front ∙ ap (λ (xs : List ℕ). take c.args.count xs) rest in
    rw c.str_token.ensures.token (λ left. string_found left _ c.requires.ahead.1 c.requires.near c.place-place.ensures.held (sym (ap quoted_length tail) ∙ c.requires.whole) c.pass.ensures.held c.pass.ensures.place _ text _ c.place-place.ensures.place)

pub str_token-requires : goal.str_token-requires
str_token-requires c =
    let q = quoted _ _ c.requires.whole in
    let text : c.in_ok-text.text ≡ c.split_at-2.result.0.now = c.in_ok-text.ensures in
    omega (arith, ap (λ (xs : List ℕ). length xs) text, c.split_at-2.ensures.front_len, q.more, c.place-place.ensures.held, length-drop 1 c.args.bytes.now.held)
