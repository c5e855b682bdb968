use Rattle.std.proofs.Common.{sym, ◌∙◌}
use Rattle.vlog_exprs.proofs.HeldWords.{some_held, name_is, held_is_name}
use Rattle.vlog_exprs.proofs.cursor.VCursor.held_name.Goals as goal

pub returns-in_default-clause-held : goal.returns-in_default-clause-held
returns-in_default-clause-held c =
    let some = some_held c.args.self.now _ c.held_word-held.ensures.word c.if-count-eq0.false in
    (c.no_memory.ensures.error, some, c.no_memory.ensures.spoilt)

pub returns-clause-held : goal.returns-clause-held
returns-clause-held c =
    let some = some_held c.args.self.now _ c.held_word-held.ensures.word c.if-count-eq0.false in
    (name_is _ _ _ c.held_word-held.ensures.word c.in-Ok.ensures (sym c.is_keyword.ensures ∙ c.if-is_keyword.false), some, c.held_word-held.ensures.held, c.take_word.ensures)

pub returns-clause-value : goal.returns-clause-value
returns-clause-value c = held_is_name _ _ _ c.held_word-held.ensures.word c.if-count-eq0.false c.in-Ok.ensures
