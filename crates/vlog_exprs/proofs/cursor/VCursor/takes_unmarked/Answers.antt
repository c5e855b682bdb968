use Rattle.std.proofs.Common.{false, refl, sym, ap, ◌<◌, List, ℕ, length, arith}
use Rattle.vlog_exprs.specs.Calls.{stands, held_word}
use Rattle.vlog_exprs.specs.Reasons.{at_mark}
use Rattle.vlog_exprs.proofs.HeldWords.{word_none, mark_leaves_word}
use Rattle.vlog_exprs.proofs.HeldPlains.{plain_none, mark_leaves_plain}
use Rattle.vlog_exprs.proofs.cursor.VCursor.takes_unmarked.Goals as goal

pub returns-then-count-gt0 : goal.returns-then-count-gt0
returns-then-count-gt0 g c =
    let some : 0 < length (held_word c.args.self.now) = omega (arith, ap (λ (w : List ℕ). length w) c.held_word-held.ensures.word, c.if-count-gt0.true) in
    word_none stands (at_mark c.args.mark) c.args.self.now c.args.self.now some c.held_word-held.ensures.held _ false refl (mark_leaves_word _ _)

pub returns-in-Some : goal.returns-in-Some
returns-in-Some g c =
    plain_none c.args.self.now c.args.self.now c.in-Some._plain (sym c.in-Some.ensures.plain) c.held_plain.ensures.held _ stands (at_mark c.args.mark) false refl (mark_leaves_plain _ _)
