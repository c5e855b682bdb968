use Rattle.std.proofs.Common.{sym}
use Rattle.vlog_exprs.proofs.HeldMarks.{mark_due}
use Rattle.vlog_exprs.proofs.cursor.VCursor.mark.Goals as goal

pub returns-then-mark-due : goal.returns-then-mark-due
returns-then-mark-due g c = mark_due c.args.self.now c.take_mark.new.self c.args.due c.in-Some.mark (sym c.in-Some.ensures.mark) c.if-mark-due.true c.held_mark.ensures.held _ c.take_mark.ensures
