use Rattle.std.proofs.Common.{◌∙◌}
use Rattle.edif_keywords.proofs.HeldTokens.{some_held, word_held, word_not_held, held_proper}
use Rattle.edif_keywords.proofs.cursor.Cursor.word.Goals as goal

pub returns-in_default-clause-reads : goal.returns-in_default-clause-reads
returns-in_default-clause-reads g c =
    let some = some_held c.args.self.now _ c.held_word-held.ensures.word c.if-count-eq0.false in
    rw c.no_memory.ensures.error (word_not_held c.args.self.now c.no_memory.new.self some _ c.no_memory.ensures.spoilt)

pub of-requires-clause-spelled : goal.of-requires-clause-spelled
of-requires-clause-spelled g c =
    let some = some_held c.args.self.now _ c.held_word-held.ensures.word c.if-count-eq0.false in
    let proper = held_proper c.args.self.now c.in-Ok.text some (c.in-Ok.ensures ∙ c.held_word-held.ensures.word) in
    proper.0

pub of-requires-clause-short : goal.of-requires-clause-short
of-requires-clause-short g c =
    let some = some_held c.args.self.now _ c.held_word-held.ensures.word c.if-count-eq0.false in
    let proper = held_proper c.args.self.now c.in-Ok.text some (c.in-Ok.ensures ∙ c.held_word-held.ensures.word) in
    proper.1

pub returns-clause-reads : goal.returns-clause-reads
returns-clause-reads g c =
    let some = some_held c.args.self.now _ c.held_word-held.ensures.word c.if-count-eq0.false in
    word_held c.args.self.now c.take_word.new.self _ some c.held_word-held.ensures.held _ (c.of.ensures ∙ c.in-Ok.ensures ∙ c.held_word-held.ensures.word) c.take_word.ensures

pub returns-clause-value : goal.returns-clause-value
returns-clause-value g c =
    let some = some_held c.args.self.now _ c.held_word-held.ensures.word c.if-count-eq0.false in
    held_proper c.args.self.now _ some (c.of.ensures ∙ c.in-Ok.ensures ∙ c.held_word-held.ensures.word)
