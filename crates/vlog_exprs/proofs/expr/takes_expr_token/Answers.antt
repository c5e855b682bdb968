use Rattle.std.proofs.Common.{Some, None, refl, sym}
use Rattle.readers.specs.Readers.{same}
use Rattle.vlog_exprs.specs.Reasons.{at_expr}
use Rattle.vlog_exprs.proofs.Glances.{seen_says, seen_none, seen_fails}
use Rattle.vlog_exprs.specs.declared.start.ExprStart.TheVariants.{Brace}
use Rattle.vlog_exprs.proofs.HeldMarks.{mark_some, mark_none, brace_leaves, brace_takes}
use Rattle.vlog_exprs.proofs.Known.{value_seen, leaves_proper, at_start}
use Rattle.vlog_exprs.proofs.expr.takes_expr_token.Goals as goal

pub returns-in_err-next-clause-reads : goal.returns-in_err-next-clause-reads
returns-in_err-next-clause-reads g c = seen_fails (λ _ x. at_expr x.token) _ _ _ _ same _ _ c.in_err-next.ensures.reads c.from_residual.ensures.1

pub returns-in_default-next-clause-reads : goal.returns-in_default-next-clause-reads
returns-in_default-next-clause-reads g c = seen_none (λ _ x. at_expr x.token) _ _ _ _ same None refl (rw c.in_default-next.is at c.in_ok-next.ensures.reads)

pub returns-clause-reads : goal.returns-clause-reads
returns-clause-reads g c = seen_says (λ _ x. at_expr x.token) _ _ _ _ _ (rw c.in-Some-next.is at c.in_ok-next.ensures.reads) _ _ _ c.at_expr.ensures c.settled.ensures.answer c.settled.ensures.left

pub returns-then-mark-ne123-clause-reads : goal.returns-then-mark-ne123-clause-reads
returns-then-mark-ne123-clause-reads g c =
    mark_none same at_expr c.args.cursor.now c.args.cursor.now c.in-Some.mark (sym c.in-Some.ensures.mark) c.held_mark.ensures.held _ None refl (brace_leaves _ c.if-mark-ne123.true)

pub returns-in-Some-clause-reads : goal.returns-in-Some-clause-reads
returns-in-Some-clause-reads g c =
    mark_some same at_expr c.args.cursor.now c.take_mark.new.self c.in-Some.mark (sym c.in-Some.ensures.mark) c.held_mark.ensures.held _ (Some Brace) Brace refl (brace_takes _ c.if-mark-ne123.false) c.take_mark.ensures

pub settled-requires-clause-proper : goal.settled-requires-clause-proper
settled-requires-clause-proper g c = leaves_proper _ _ _ c.at_expr.ensures (rw c.in-Some-next.is at c.in_ok-next.ensures.proper)

pub returns-clause-value : goal.returns-clause-value
returns-clause-value g c = value_seen at_expr _ c.in-Some-next.field-0.token (at_start _ (rw c.in-Some-next.is at c.in_ok-next.ensures.proper)) _ _ _ _ c.at_expr.ensures c.settled.ensures.answer
