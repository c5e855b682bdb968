use Rattle.std.proofs.Common.{◌≡◌, ℕ, List, ◌∙◌, ap, take, length-take, refl, arith}
use Rattle.std.proofs.lemmas.Result.{err_from_is_err_and}
use Rattle.nl_base.specs.declared.place.Place.{Place}
use Rattle.nl_base.proofs.Places.{place_past-offset}
use Rattle.nl_bytes.specs.declared.class.Class.TheVariants.{WordByte}
use Rattle.edif_tokens.proofs.Held.{word_whole, whole_each, whole_shape, reads_nothing}
use Rattle.edif_tokens.proofs.Words.{identifier_led}
use Rattle.edif_tokens.proofs.whole.held_word.Goals as goal

pub returns-in_err-text-clause-reads : goal.returns-in_err-text-clause-reads
returns-in_err-text-clause-reads g c =
    let p = err_from_is_err_and c.from_residual.result c.from_residual.ensures.1 in
    rw (p.1, p.2) (reads_nothing _ _ _ _)

pub pass-requires-clause-each : goal.pass-requires-clause-each
pass-requires-clause-each g c = whole_each c.requires.whole

pub word_of-requires-clause-spelled : goal.word_of-requires-clause-spelled
word_of-requires-clause-spelled g c =
    let text : c.in_ok-text.text ≡ take c.args.count c.args.bytes.now.held = c.in_ok-text.ensures ∙ c.split_at.ensures.front ∙ ap (λ (xs : List ℕ). take c.args.count xs) c.held.ensures in
    identifier_led (whole_shape {class = WordByte} c.requires.whole c.requires.some text c.args.byte c.requires.ahead.0 c.requires.ahead.1) c.requires.begins

pub returns-clause-reads : goal.returns-clause-reads
returns-clause-reads g c =
    let text : c.in_ok-text.text ≡ take c.args.count c.args.bytes.now.held = c.in_ok-text.ensures ∙ c.split_at.ensures.front ∙ ap (λ (xs : List ℕ). take c.args.count xs) c.held.ensures in
    word_whole _ c.requires.whole c.requires.some c.pass.ensures.held c.pass.ensures.place text _ (rw (c.place-place.ensures.place, c.word_of.ensures.token) refl)

pub returns-clause-ended : goal.returns-clause-ended
returns-clause-ended g c =
    let held = c.args.bytes.now.held in
    let moved = ap (λ (q : Place). q.offset) c.pass.ensures.place ∙ place_past-offset c.args.bytes.now.place (take c.args.count held) in
    omega (arith, moved, length-take c.args.count held, ap (λ (q : Place). q.offset) c.place-place.ensures.place)
