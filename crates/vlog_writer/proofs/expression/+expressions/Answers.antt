use Rattle.std.proofs.Common.{ℕ, List, subst}
use Rattle.vlog_writer.specs.Forms.{expr_form}
use Rattle.nl_output.specs.Writing.{state, ToCome}
use Rattle.vlog_writer.proofs.Steps.{between_next, between_end}
use Rattle.vlog_writer.proofs.Expressions.{ref_is, lit_is, number_is, loose_is, cat_is, rep_is}
use Rattle.vlog_writer.proofs.expression.+expressions.Goals as goal

pub write_cat-returns : goal.write_cat-returns
write_cat-returns g t c b rest s = c.put-2.ensures b rest (c.write_exprs.ensures b _ (c.put.ensures b _ s))

pub write_expr-returns-in-Ref : goal.write_expr-returns-in-Ref
write_expr-returns-in-Ref g t c = rw (c.in-Ref.is, ref_is) c.write_ref.ensures

pub write_expr-returns-in-Lit : goal.write_expr-returns-in-Lit
write_expr-returns-in-Lit g t c = rw (c.in-Lit.is, lit_is, ← c.get.ensures) c.write_literal.ensures

pub write_expr-returns-in-LooseNumber : goal.write_expr-returns-in-LooseNumber
write_expr-returns-in-LooseNumber g t c = rw (c.in-LooseNumber.is, number_is) c.put_int.ensures

pub write_expr-returns-in-Loose : goal.write_expr-returns-in-Loose
write_expr-returns-in-Loose g t c = rw (c.in-Loose.is, loose_is) c.write_based.ensures

pub write_expr-returns-in-Cat : goal.write_expr-returns-in-Cat
write_expr-returns-in-Cat g t c = rw (c.in-Cat.is, cat_is) (rw c.items.ensures at c.write_cat.ensures)

pub write_expr-returns-in-Rep : goal.write_expr-returns-in-Rep
write_expr-returns-in-Rep g t c =
    let cat = rw (c.items-in-Rep.ensures, c.get-in-Rep.ensures) at c.write_cat-in-Rep.ensures in
    rw (c.in-Rep.is, rep_is) (λ b rest s. c.put-in-Rep.ensures b rest (cat b _ (c.put_int-in-Rep.ensures b _ (c.put.ensures b _ s))))

pub write_exprs-loop-expr-preserved : goal.write_exprs-loop-expr-preserved
write_exprs-loop-expr-preserved g t c b rest s =
    c.write_expr.ensures b _ (c.put_comma.ensures b _
    (subst (λ (z : List ℕ). ToCome b (state g.O.Sink.receipt c.loop-expr.sink c.loop-expr.output) z)
    (between_next expr_form c.loop-expr.due c.args.exprs.now c.loop-expr.expr-index c.expr-item.result rest c.loop-expr-test.true c.expr-item.is) (c.loop-expr.invariant b rest s)))

pub write_exprs-returns : goal.write_exprs-returns
write_exprs-returns g t c b rest s =
    subst (λ (z : List ℕ). ToCome b (state g.O.Sink.receipt c.loop-expr.sink c.loop-expr.output) z)
    (between_end expr_form c.loop-expr.due c.args.exprs.now c.loop-expr.expr-index rest c.loop-expr-test.false) (c.loop-expr.invariant b rest s)
