use Rattle.std.proofs.Common.{◌≡◌, ℕ, List, ◌∙◌, ◌-◌, ap, sym, take, drop, length, length-take, length-drop, refl, arith}
use Rattle.std.proofs.lemmas.Result.{err_from_is_err_and}
use Rattle.nl_base.specs.declared.place.Place.{Place}
use Rattle.edif_tokens.proofs.Held.{string_whole, string_each, string_stop, reads_nothing}
use Rattle.edif_tokens.proofs.Quoted.{Steps}
use Rattle.edif_tokens.proofs.whole.held_string.Goals as goal

pub returns-in_err-text-clause-reads : goal.returns-in_err-text-clause-reads
returns-in_err-text-clause-reads g c =
    let p = err_from_is_err_and c.from_residual.result c.from_residual.ensures.1 in
    rw (p.1, p.2) (reads_nothing _ _ _ _)

pub pass-requires-clause-each : goal.pass-requires-clause-each
pass-requires-clause-each g c =
    string_each (record { tail = c.requires.ahead.0; ahead = c.requires.ahead.1; held = c.advance.ensures.held; place = c.advance.ensures.place }) c.requires.quoted

pub string_of-requires : goal.string_of-requires
string_of-requires g c =
    let rest = c.split_at.ensures.back ∙ ap (λ (xs : List ℕ). drop 1 xs) c.held.ensures in
    let text : c.in_ok-text.text ≡ take (c.args.count - 2) (drop 1 c.args.bytes.now.held) = c.in_ok-text.ensures ∙ c.split_at-2.ensures.front ∙ ap (λ (xs : List ℕ). take (c.args.count - 2) xs) rest in
    omega (arith, ap (λ (w : List ℕ). length w) text, length-take (c.args.count - 2) (drop 1 c.args.bytes.now.held), length-drop 1 c.args.bytes.now.held, c.place-place.ensures.held)

pub returns-clause-reads : goal.returns-clause-reads
returns-clause-reads g c =
    let s : Steps c.args.bytes.now c.advance.new.self 34 = record { tail = c.requires.ahead.0; ahead = c.requires.ahead.1; held = c.advance.ensures.held; place = c.advance.ensures.place } in
    let rest = c.split_at.ensures.back ∙ ap (λ (xs : List ℕ). drop 1 xs) c.held.ensures ∙ sym c.advance.ensures.held in
    let text = c.in_ok-text.ensures ∙ c.split_at-2.ensures.front ∙ ap (λ (xs : List ℕ). take (c.args.count - 2) xs) rest in
    string_whole _ s c.requires.quoted c.place-place.ensures.held c.pass.ensures.held c.pass.ensures.place c.advance-2.ensures.held c.advance-2.ensures.place text _ (rw (c.place-place.ensures.place, c.string_of.ensures.token) refl)

pub advance-requires-2-clause-within : goal.advance-requires-2-clause-within
advance-requires-2-clause-within g c =
    let s : Steps c.args.bytes.now c.advance.new.self 34 = record { tail = c.requires.ahead.0; ahead = c.requires.ahead.1; held = c.advance.ensures.held; place = c.advance.ensures.place } in
    omega (arith, string_stop c.pass.new.self s c.requires.quoted c.pass.ensures.place, c.requires.quoted.within)

pub returns-clause-ended : goal.returns-clause-ended
returns-clause-ended g c =
    let s : Steps c.args.bytes.now c.advance.new.self 34 = record { tail = c.requires.ahead.0; ahead = c.requires.ahead.1; held = c.advance.ensures.held; place = c.advance.ensures.place } in
    omega (arith, string_stop c.pass.new.self s c.requires.quoted c.pass.ensures.place, ap (λ (q : Place). q.offset) c.advance-2.ensures.place, ap (λ (q : Place). q.offset) c.place-place.ensures.place)
