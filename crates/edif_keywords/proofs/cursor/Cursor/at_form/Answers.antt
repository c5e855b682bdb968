use Rattle.std.proofs.Common.{sym, ap, refl, ◌<◌, ℕ, List, length, arith}
use Rattle.edif_keywords.specs.Calls.{held_word}
use Rattle.edif_keywords.proofs.HeldTokens.{form_held, no_form_held}
use Rattle.edif_keywords.proofs.cursor.Cursor.at_form.Goals as goal

pub returns-in-Some : goal.returns-in-Some
returns-in-Some g c = record { looks = form_held c.args.self.now c.in-Some.mark _ (sym c.in-Some.ensures.mark) c.held_mark.ensures.held _ refl }

pub returns-then-count-gt0 : goal.returns-then-count-gt0
returns-then-count-gt0 g c =
    let some : 0 < length (held_word c.args.self.now) = omega (arith, ap (λ (w : List ℕ). length w) c.held_word-count.ensures.word, c.if-count-gt0.true) in
    record { looks = no_form_held c.args.self.now some c.held_word-count.ensures.held _ }
