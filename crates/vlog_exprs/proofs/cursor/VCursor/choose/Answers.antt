use Rattle.std.proofs.Common.{rules, ◌≡◌, Some, sym, ap, ◌∙◌, ◌<◌, List, ℕ, length, arith}
use Rattle.vlog_exprs.specs.Reasons.{choice_of, meant_by, rows}
use Rattle.vlog_exprs.specs.Calls.{held_word}
use Rattle.vlog_exprs.proofs.HeldWords.{word_says, choice_says_word}
use Rattle.vlog_exprs.proofs.cursor.VCursor.choose.Goals as goal

pub returns-then-is_keyword : goal.returns-then-is_keyword
returns-then-is_keyword g c =
    let some : 0 < length (held_word c.args.self.now) = omega (arith, ap (λ (w : List ℕ). length w) c.held_word-held.ensures.word, c.if-count-gt0.true) in
    let value : Some c.in-Some.value ≡ meant_by (rows c.args.words.now) c.held_word-held.result.now = search (rules, c.meant_by.ensures, c.in-Some) in
    word_says (choice_of (rows c.args.words.now)) c.args.self.now c.take_word.new.self c.in-Some.value some c.held_word-held.ensures.held _
    (choice_says_word (rows c.args.words.now) _ _ c.in-Some.value c.held_word-held.ensures.word (sym c.is_keyword.ensures ∙ c.if-is_keyword.true) value) c.take_word.ensures
