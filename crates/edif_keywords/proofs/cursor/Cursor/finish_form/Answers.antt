use Rattle.std.proofs.Common.{◌∙◌, sym, ap, Some}
use Rattle.edif_keywords.proofs.HeldTokens.{closing_taken}
use Rattle.edif_keywords.proofs.cursor.Cursor.finish_form.Goals as goal

pub returns-then-mark-eq41 : goal.returns-then-mark-eq41
returns-then-mark-eq41 g c = closing_taken c.args.self.now c.take_mark.new.self (sym c.in-Some.ensures.mark ∙ ap Some c.if-mark-eq41.true) c.held_mark.ensures.held _ c.take_mark.ensures
