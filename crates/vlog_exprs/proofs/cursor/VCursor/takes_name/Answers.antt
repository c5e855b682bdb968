use Rattle.std.proofs.Common.{◌≡◌, ◌∙◌, ◌<◌, List, ℕ, true, None, length, refl, sym, ap, arith}
use Rattle.readers.specs.Readers.{same}
use Rattle.vlog_tokens.specs.Keywords.{is_keyword}
use Rattle.vlog_exprs.specs.Calls.{held_word}
use Rattle.vlog_exprs.specs.Reasons.{at_name}
use Rattle.vlog_exprs.proofs.HeldWords.{word_none, name_is, held_some_is_name, name_leaves_keyword, name_some, name_fails_maybe}
use Rattle.vlog_exprs.proofs.cursor.VCursor.takes_name.Goals as goal

pub returns-then-is_keyword-clause-reads : goal.returns-then-is_keyword-clause-reads
returns-then-is_keyword-clause-reads g c =
    let some : 0 < length (held_word c.args.self.now) = omega (arith, ap (λ (w : List ℕ). length w) c.held_word-held.ensures.word, c.if-count-gt0.true) in
    let word : is_keyword (held_word c.args.self.now) ≡ true = ap is_keyword (sym c.held_word-held.ensures.word) ∙ sym c.is_keyword.ensures ∙ c.if-is_keyword.true in
    word_none same at_name c.args.self.now c.args.self.now some c.held_word-held.ensures.held _ None refl (name_leaves_keyword _ word)

pub returns-in_default-clause-reads : goal.returns-in_default-clause-reads
returns-in_default-clause-reads g c =
    let some : 0 < length (held_word c.args.self.now) = omega (arith, ap (λ (w : List ℕ). length w) c.held_word-held.ensures.word, c.if-count-gt0.true) in
    name_fails_maybe _ _ _ (λ _ x. at_name x.token) c.no_memory.result _ (c.no_memory.ensures.error, some, c.no_memory.ensures.spoilt) refl

pub returns-then-count-gt0-clause-reads : goal.returns-then-count-gt0-clause-reads
returns-then-count-gt0-clause-reads g c =
    let some : 0 < length (held_word c.args.self.now) = omega (arith, ap (λ (w : List ℕ). length w) c.held_word-held.ensures.word, c.if-count-gt0.true) in
    name_some _ _ _ at_name c.in-Ok.text c.in-Ok.text (name_is _ _ _ c.held_word-held.ensures.word c.in-Ok.ensures (sym c.is_keyword.ensures ∙ c.if-is_keyword.false), some, c.held_word-held.ensures.held, c.take_word.ensures) refl

pub returns-then-count-gt0-clause-value : goal.returns-then-count-gt0-clause-value
returns-then-count-gt0-clause-value g c =
    let some : 0 < length (held_word c.args.self.now) = omega (arith, ap (λ (w : List ℕ). length w) c.held_word-held.ensures.word, c.if-count-gt0.true) in
    held_some_is_name c.args.self.now _ _ c.held_word-held.ensures.word some c.in-Ok.ensures
