use Rattle.std.proofs.Common.{true, false, refl, sym, ap, ◌∙◌, ◌<◌, List, ℕ, length, Some, arith}
use Rattle.vlog_tokens.specs.declared.plain.Plain.TheVariants as plains
use Rattle.vlog_exprs.specs.Calls.{stands, held_word}
use Rattle.vlog_exprs.specs.Reasons.{at_group}
use Rattle.vlog_exprs.proofs.HeldMarks.{mark_none}
use Rattle.vlog_exprs.proofs.HeldWords.{word_none, group_leaves_word}
use Rattle.vlog_exprs.proofs.HeldPlains.{plain_some, plain_none}
use Rattle.vlog_exprs.proofs.attr.takes_group.Goals as goal

pub returns-in-Some-held_mark : goal.returns-in-Some-held_mark
returns-in-Some-held_mark g c = mark_none stands at_group c.args.cursor.now c.args.cursor.now c.in-Some-held_mark._mark (sym c.in-Some-held_mark.ensures.mark) c.held_mark.ensures.held _ false refl refl

pub returns-then-count-gt0 : goal.returns-then-count-gt0
returns-then-count-gt0 g c =
    let some : 0 < length (held_word c.args.cursor.now) = omega (arith, ap (λ (w : List ℕ). length w) c.held_word-held.ensures.word, c.if-count-gt0.true) in
    word_none stands at_group c.args.cursor.now c.args.cursor.now some c.held_word-held.ensures.held _ false refl (group_leaves_word _)

pub returns-in-AttrStart : goal.returns-in-AttrStart
returns-in-AttrStart g c =
    plain_some c.args.cursor.now c.take_plain.new.self plains.AttrStart (sym c.in-Some.ensures.plain ∙ ap Some c.in-AttrStart.is) c.held_plain.ensures.held _ stands at_group true tt refl refl c.take_plain.ensures

pub returns-in-AttrStop : goal.returns-in-AttrStop
returns-in-AttrStop g c =
    plain_none c.args.cursor.now c.args.cursor.now plains.AttrStop (sym c.in-Some.ensures.plain ∙ ap Some c.in-AttrStop.is) c.held_plain.ensures.held _ stands at_group false refl refl

pub returns-in-Number : goal.returns-in-Number
returns-in-Number g c =
    plain_none c.args.cursor.now c.args.cursor.now (plains.Number c.in-Number.field-0) (sym c.in-Some.ensures.plain ∙ ap Some c.in-Number.is) c.held_plain.ensures.held _ stands at_group false refl refl
