use Rattle.std.proofs.Common.{ℕ, List, drop, false}
use Rattle.vlog_writer.specs.Forms.{expr_form}
use Rattle.vlog_writer.specs.Layout.{between, each}
use Rattle.nl_output.specs.Writing.{Begin, state, ToCome}
use Rattle.vlog_writer.proofs.expression.+expressions.Given as goal

abbrev pub invariant-write_exprs-loop-expr : goal.invariant-write_exprs-loop-expr
invariant-write_exprs-loop-expr g l =
    (b : Begin) (rest : List ℕ) → ToCome b (state g.O.Sink.receipt l.fn.sink l.fn.output) (between false (each expr_form l.exprs) rest)
    → ToCome b (state g.O.Sink.receipt l.sink l.output) (between l.due (each expr_form (drop l.expr-index l.exprs)) rest)
