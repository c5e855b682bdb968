use Rattle.std.proofs.Common.{true, false, refl, sym}
use Rattle.vlog_exprs.specs.Calls.{stands}
use Rattle.vlog_exprs.specs.Reasons.{at_mark}
use Rattle.vlog_exprs.proofs.HeldMarks.{mark_some, mark_none, mark_leaves, mark_takes}
use Rattle.vlog_exprs.proofs.cursor.VCursor.takes.Goals as goal

pub returns-then-next-mark : goal.returns-then-next-mark
returns-then-next-mark g c =
    mark_none stands (at_mark c.args.mark) c.args.self.now c.args.self.now c.in-Some.next (sym c.in-Some.ensures.mark) c.held_mark.ensures.held _ false refl (mark_leaves _ _ c.if-next-mark.true)

pub returns-in-Some : goal.returns-in-Some
returns-in-Some g c =
    mark_some stands (at_mark c.args.mark) c.args.self.now c.take_mark.new.self c.in-Some.next (sym c.in-Some.ensures.mark) c.held_mark.ensures.held _ true tt refl (mark_takes _ _ c.if-next-mark.false) c.take_mark.ensures
