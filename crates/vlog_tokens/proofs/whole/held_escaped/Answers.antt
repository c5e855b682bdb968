use Rattle.std.proofs.Common.{◌≡◌, List, ℕ, ◌∙◌, ap, drop, take, length, arith}
use Rattle.std.proofs.lemmas.Result.{err_from_is_err_and}
use Rattle.vlog_tokens.specs.Held.{escaped_length}
use Rattle.vlog_tokens.proofs.Held.{escaped_named, escaped_each, escaped_found, found_nothing}
use Rattle.nl_bytes.specs.declared.class.Class.TheVariants.{Graphic}
use Rattle.vlog_tokens.proofs.Lexemes.{graphic_bounds, name_of_held}
use Rattle.vlog_tokens.proofs.whole.held_escaped.Goals as goal

pub split_at-requires-2 : goal.split_at-requires-2
split_at-requires-2 c =
    let w = escaped_named _ _ c.requires.whole c.requires.some in
    let name : c.split_at.result.1.now ≡ drop 1 c.args.bytes.now.held = c.split_at.ensures.back ∙ ap (λ (xs : List ℕ). drop 1 xs) c.held.ensures in
    omega (arith, w.0.more, ap (λ (xs : List ℕ). length xs) name)

pub returns-in_err-text-clause-finds : goal.returns-in_err-text-clause-finds
returns-in_err-text-clause-finds c =
    let p = err_from_is_err_and c.from_residual.result c.from_residual.ensures.1 in
    rw (p.1, p.2) (λ left. found_nothing _ left)

pub pass-requires-clause-each : goal.pass-requires-clause-each
pass-requires-clause-each c =
    let tail = ap (λ (xs : List ℕ). drop 1 xs) c.requires.ahead.1 in
    escaped_each _ _ c.args.count c.requires.ahead.1 (rw tail at (escaped_named _ _ c.requires.whole c.requires.some).0.each)

pub returns-clause-finds : goal.returns-clause-finds
returns-clause-finds c =
    let tail = ap (λ (xs : List ℕ). drop 1 xs) c.requires.ahead.1 in
    let name : c.split_at.result.1.now ≡ c.requires.ahead.0 = c.split_at.ensures.back ∙ ap (λ (xs : List ℕ). drop 1 xs) c.held.ensures ∙ tail in
    let text : c.in_ok-text.text ≡ take c.args.count c.requires.ahead.0 = c.in_ok-text.ensures ∙ c.split_at-2.ensures.front ∙ ap (λ (xs : List ℕ). take c.args.count xs) name in
    λ left. escaped_found left _ c.requires.ahead.1 c.requires.near c.requires.some (c.requires.whole ∙ ap escaped_length tail) c.pass.ensures.held c.pass.ensures.place _ text _ c.place-place.ensures.place

pub returns-clause-proper : goal.returns-clause-proper
returns-clause-proper c =
    let w = (escaped_named _ _ c.requires.whole c.requires.some).0 in
    let name : c.split_at.result.1.now ≡ drop 1 c.args.bytes.now.held = c.split_at.ensures.back ∙ ap (λ (xs : List ℕ). drop 1 xs) c.held.ensures in
    let text : c.in_ok-text.text ≡ take c.args.count (drop 1 c.args.bytes.now.held) = c.in_ok-text.ensures ∙ c.split_at-2.ensures.front ∙ ap (λ (xs : List ℕ). take c.args.count xs) name in
    rw text (name_of_held Graphic _ _ c.requires.some w.more w.short w.each graphic_bounds)
