use Rattle.std.proofs.Common.{◌∙◌, sym, ap, Some}
use Rattle.edif_keywords.proofs.HeldTokens.{opening_taken}
use Rattle.edif_keywords.proofs.cursor.Cursor.begin_list.Goals as goal

pub returns-then-mark-eq40 : goal.returns-then-mark-eq40
returns-then-mark-eq40 g c = opening_taken c.args.self.now c.take_mark.new.self (sym c.in-Some.ensures.mark ∙ ap Some c.if-mark-eq40.true) c.held_mark.ensures.held _ c.take_mark.ensures
