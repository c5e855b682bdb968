use Rattle.vlog_exprs.proofs.Ends.{ends_fails, ends_none, ends_at}
use Rattle.vlog_exprs.proofs.cursor.VCursor.end_of_input.Goals as goal

pub returns-in_err-next : goal.returns-in_err-next
returns-in_err-next g c = ends_fails _ _ _ _ _ _ c.in_err-next.ensures.reads c.from_residual.ensures.1

pub returns-in_default : goal.returns-in_default
returns-in_default g c = ends_none _ _ _ _ (rw c.in_default.is at c.in_ok-next.ensures.reads)

pub returns : goal.returns
returns g c = ends_at _ _ _ _ _ (rw c.in-Some.is at c.in_ok-next.ensures.reads) _ _ _ c.refused-said.ensures c.judged.ensures.answer c.judged.ensures.left
