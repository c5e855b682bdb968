use Rattle.std.proofs.Common.{rules, ◌≡◌, Some, None, refl, sym, ap, ◌∙◌, ◌<◌, List, ℕ, length, arith}
use Rattle.readers.specs.Readers.{same}
use Rattle.vlog_exprs.specs.Reasons.{at_choice, meant_by, rows}
use Rattle.vlog_exprs.proofs.Glances.{seen_says, seen_none, seen_fails}
use Rattle.vlog_exprs.proofs.HeldMarks.{mark_none}
use Rattle.vlog_exprs.specs.Calls.{held_word}
use Rattle.vlog_exprs.proofs.HeldWords.{word_some, word_none, choice_leaves_word, choice_leaves_name, choice_takes_word}
use Rattle.vlog_exprs.proofs.Known.{value_seen, leaves_proper, choice_is, held_choice_is}
use Rattle.vlog_exprs.proofs.cursor.VCursor.takes_choice.Goals as goal

pub returns-in_err-next-clause-reads : goal.returns-in_err-next-clause-reads
returns-in_err-next-clause-reads g c = seen_fails (λ _ x. at_choice (rows c.args.words.now) x.token) _ _ _ _ same _ _ c.in_err-next.ensures.reads c.from_residual.ensures.1

pub returns-in_default-next-clause-reads : goal.returns-in_default-next-clause-reads
returns-in_default-next-clause-reads g c = seen_none (λ _ x. at_choice (rows c.args.words.now) x.token) _ _ _ _ same None refl (rw c.in_default-next.is at c.in_ok-next.ensures.reads)

pub returns-clause-reads : goal.returns-clause-reads
returns-clause-reads g c = seen_says (λ _ x. at_choice (rows c.args.words.now) x.token) _ _ _ _ _ (rw c.in-Some-next.is at c.in_ok-next.ensures.reads) _ _ _ c.at_choice.ensures c.settled.ensures.answer c.settled.ensures.left

pub returns-in-Some-held_mark-clause-reads : goal.returns-in-Some-held_mark-clause-reads
returns-in-Some-held_mark-clause-reads g c =
    mark_none same (at_choice (rows c.args.words.now)) c.args.self.now c.args.self.now c.in-Some-held_mark._mark (sym c.in-Some-held_mark.ensures.mark) c.held_mark.ensures.held _ None refl refl

pub returns-in_default-clause-reads : goal.returns-in_default-clause-reads
returns-in_default-clause-reads g c =
    let some : 0 < length (held_word c.args.self.now) = omega (arith, ap (λ (w : List ℕ). length w) c.held_word-held.ensures.word, c.if-count-gt0.true) in
    let none : None ≡ meant_by (rows c.args.words.now) c.held_word-held.result.now = search (rules, c.meant_by.ensures, c.in_default) in
    word_none same (at_choice (rows c.args.words.now)) c.args.self.now c.args.self.now some c.held_word-held.ensures.held _ None refl (choice_leaves_word (rows c.args.words.now) _ _ c.held_word-held.ensures.word none)

pub returns-then-is_keyword-clause-reads : goal.returns-then-is_keyword-clause-reads
returns-then-is_keyword-clause-reads g c =
    let some : 0 < length (held_word c.args.self.now) = omega (arith, ap (λ (w : List ℕ). length w) c.held_word-held.ensures.word, c.if-count-gt0.true) in
    let value : Some c.in-Some.value ≡ meant_by (rows c.args.words.now) c.held_word-held.result.now = search (rules, c.meant_by.ensures, c.in-Some) in
    word_some same (at_choice (rows c.args.words.now)) c.args.self.now c.take_word.new.self some c.held_word-held.ensures.held _ (Some c.in-Some.value) c.in-Some.value refl
    (choice_takes_word (rows c.args.words.now) _ _ c.in-Some.value c.held_word-held.ensures.word (sym c.is_keyword.ensures ∙ c.if-is_keyword.true) value) c.take_word.ensures

pub returns-then-count-gt0-clause-reads : goal.returns-then-count-gt0-clause-reads
returns-then-count-gt0-clause-reads g c =
    let some : 0 < length (held_word c.args.self.now) = omega (arith, ap (λ (w : List ℕ). length w) c.held_word-held.ensures.word, c.if-count-gt0.true) in
    word_none same (at_choice (rows c.args.words.now)) c.args.self.now c.args.self.now some c.held_word-held.ensures.held _ None refl
    (choice_leaves_name (rows c.args.words.now) _ _ c.held_word-held.ensures.word (sym c.is_keyword.ensures ∙ c.if-is_keyword.false))

pub settled-requires-clause-proper : goal.settled-requires-clause-proper
settled-requires-clause-proper g c = leaves_proper _ _ _ c.at_choice.ensures (rw c.in-Some-next.is at c.in_ok-next.ensures.proper)

pub returns-clause-value : goal.returns-clause-value
returns-clause-value g c = value_seen (at_choice (rows c.args.words.now)) _ _ (choice_is (rows c.args.words.now) _) _ _ _ _ c.at_choice.ensures c.settled.ensures.answer

pub returns-then-is_keyword-clause-value : goal.returns-then-is_keyword-clause-value
returns-then-is_keyword-clause-value g c =
    let value : Some c.in-Some.value ≡ meant_by (rows c.args.words.now) c.held_word-held.result.now = search (rules, c.meant_by.ensures, c.in-Some) in
    held_choice_is (rows c.args.words.now) _ _ value
