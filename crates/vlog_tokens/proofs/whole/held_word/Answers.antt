use Rattle.std.proofs.Common.{◌≡◌, List, ℕ, ◌∙◌, ap, take, length, arith}
use Rattle.std.proofs.lemmas.Result.{err_from_is_err_and}
use Rattle.vlog_tokens.specs.Items.{word_item}
use Rattle.vlog_tokens.proofs.Held.{word_named, word_found, found_nothing}
use Rattle.nl_bytes.specs.declared.class.Class.TheVariants.{NameByte}
use Rattle.vlog_tokens.proofs.Lexemes.{name_bounds, name_of_held}
use Rattle.vlog_tokens.proofs.Proper.{word_proper}
use Rattle.vlog_tokens.proofs.whole.held_word.Goals as goal

pub split_at-requires : goal.split_at-requires
split_at-requires c = let w = word_named _ _ c.requires.whole c.requires.some in omega (arith, w.more, ap (λ (xs : List ℕ). length xs) c.held.ensures)

pub returns-in_err-text-clause-finds : goal.returns-in_err-text-clause-finds
returns-in_err-text-clause-finds c =
    let p = err_from_is_err_and c.from_residual.result c.from_residual.ensures.1 in
    rw (p.1, p.2) (λ left. found_nothing _ left)

pub pass-requires-clause-each : goal.pass-requires-clause-each
pass-requires-clause-each c = (word_named _ _ c.requires.whole c.requires.some).each

pub returns-clause-finds : goal.returns-clause-finds
returns-clause-finds c =
    let text : c.in_ok-text.text ≡ take c.args.count c.args.bytes.now.held = c.in_ok-text.ensures ∙ c.split_at.ensures.front ∙ ap (λ (xs : List ℕ). take c.args.count xs) c.held.ensures in
    λ left. word_found left _ c.requires.ahead.1 c.requires.begins c.requires.near c.requires.some c.requires.whole c.pass.ensures.held c.pass.ensures.place _ (c.word_token.ensures ∙ ap word_item text) _ c.place-place.ensures.place

pub returns-clause-proper : goal.returns-clause-proper
returns-clause-proper c =
    let w = word_named _ _ c.requires.whole c.requires.some in
    let text : c.in_ok-text.text ≡ take c.args.count c.args.bytes.now.held = c.in_ok-text.ensures ∙ c.split_at.ensures.front ∙ ap (λ (xs : List ℕ). take c.args.count xs) c.held.ensures in
    word_proper c.in_ok-text.text _ c.word_token.ensures (rw text (name_of_held NameByte _ _ c.requires.some w.more w.short w.each name_bounds))
