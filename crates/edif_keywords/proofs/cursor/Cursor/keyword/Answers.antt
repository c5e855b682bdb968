use Rattle.std.proofs.Common.{◌∙◌, sym, ap, ◌<◌, ℕ, List, length, arith}
use Rattle.edif_keywords.specs.Calls.{held_word}
use Rattle.edif_values.specs.Keywords.{allowed_keyword}
use Rattle.edif_keywords.proofs.Allowed.{allowed_is}
use Rattle.edif_keywords.proofs.HeldTokens.{keyword_held}
use Rattle.edif_keywords.proofs.cursor.Cursor.keyword.Goals as goal

pub returns-in-Some-clause-reads : goal.returns-in-Some-clause-reads
returns-in-Some-clause-reads g c =
    let some : 0 < length (held_word c.args.self.now) = omega (arith, ap (λ (w : List ℕ). length w) c.held_word-held.ensures.word, c.if-count-gt0.true) in
    keyword_held c.args.self.now c.take_word.new.self c.args.allowed.now c.in-Some.keyword some c.held_word-held.ensures.held _
    (ap (allowed_keyword c.args.allowed.now) (sym c.held_word-held.ensures.word) ∙ sym c.in-Some.ensures) c.take_word.ensures

pub returns-in-Some-clause-allowed : goal.returns-in-Some-clause-allowed
returns-in-Some-clause-allowed g c = allowed_is c.args.allowed.now _ c.in-Some.keyword (sym c.in-Some.ensures)
