use Rattle.std.proofs.Common.{false, refl, sym}
use Rattle.vlog_exprs.specs.Calls.{stands}
use Rattle.vlog_exprs.specs.Reasons.{at_mark}
use Rattle.vlog_exprs.proofs.HeldPlains.{plain_none, mark_leaves_plain}
use Rattle.vlog_exprs.proofs.attr.takes_in_group.Goals as goal

pub returns-in-Some : goal.returns-in-Some
returns-in-Some g c =
    plain_none c.args.cursor.now c.args.cursor.now c.in-Some._plain (sym c.in-Some.ensures.plain) c.held_plain.ensures.held _ stands (at_mark c.args.mark) false refl (mark_leaves_plain _ _)
