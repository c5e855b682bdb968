use Rattle.std.proofs.Common.{◌∙◌, sym, ap, true, Some, ◌<◌, List, ℕ, length, arith}
use Rattle.vlog_tokens.specs.declared.plain.Plain.TheVariants as plains
use Rattle.vlog_exprs.specs.Calls.{held_word}
use Rattle.vlog_exprs.proofs.HeldWords.{word_looked}
use Rattle.vlog_exprs.proofs.HeldPlains.{plain_looked}
use Rattle.vlog_modules.specs.Starts.{begins_item, begins_by}
use Rattle.vlog_modules.proofs.Words.{word_begins, group_begins}
use Rattle.vlog_modules.proofs.module.at_item.Goals as goal

pub returns-then-count-gt0 : goal.returns-then-count-gt0
returns-then-count-gt0 g c =
    let some : 0 < length (held_word c.args.cursor.now) = omega (arith, ap (λ (w : List ℕ). length w) c.held_word-held.ensures.word, c.if-count-gt0.true) in
    word_looked begins_item c.args.cursor.now some c.held_word-held.ensures.held _ _ (λ x is. c.begins_by.ensures ∙ ap begins_by c.held_word-held.ensures.word ∙ sym (word_begins x _ is))

pub returns-in-AttrStart : goal.returns-in-AttrStart
returns-in-AttrStart g c =
    plain_looked c.args.cursor.now c.args.cursor.now plains.AttrStart (sym c.in-Some.ensures.plain ∙ ap Some c.in-AttrStart.is) c.held_plain.ensures.held _ begins_item true group_begins
