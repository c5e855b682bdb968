use Rattle.std.proofs.Common.{IfSome, arith}
use Rattle.readers.proofs.Choices.{loops}
use Rattle.vlog_values.specs.Values.{IsExpr}
use Rattle.vlog_values.specs.Sizes.{maybe_size}
use Rattle.vlog_exprs.specs.Grammar.{list, commas}
use Rattle.vlog_items.proofs.Lists.{room_added, size_added, some_added, first_size, first_added, collects}
use Rattle.vlog_items.proofs.connection.read_exprs.Goals as goal

pub returns-in_err-expr-clause-reads : goal.returns-in_err-expr-clause-reads
unfolding list commas
returns-in_err-expr-clause-reads g c = grind (arith, loops)

pub returns-in_err-add-clause-reads : goal.returns-in_err-add-clause-reads
unfolding list commas
returns-in_err-add-clause-reads g c = grind (arith, loops)

pub loop-exprs-init : goal.loop-exprs-init
unfolding list commas
loop-exprs-init g c = collects (grind (arith, loops)) (first_added c.in_ok-add.ensures c.empty-exprs.ensures (λ e. IfSome e IsExpr) c.in_ok-expr.ensures.value) (omega (arith, first_size c.in_ok-add.ensures c.empty-exprs.ensures maybe_size, room_added c.in_ok-add.ensures, c.in_ok-expr.ensures.size))

pub returns-in_err-takes-clause-reads : goal.returns-in_err-takes-clause-reads
unfolding list commas
returns-in_err-takes-clause-reads g c = grind (arith, loops)

pub returns-in_err-expr-2-clause-reads : goal.returns-in_err-expr-2-clause-reads
unfolding list commas
returns-in_err-expr-2-clause-reads g c = grind (arith, loops)

pub loop-exprs-smaller : goal.loop-exprs-smaller
unfolding list commas
loop-exprs-smaller g c = grind (arith, loops)

pub loop-exprs-preserved : goal.loop-exprs-preserved
unfolding list commas
loop-exprs-preserved g c = collects (grind (arith, loops)) (some_added c.in_ok-add-2.ensures (λ e. IfSome e IsExpr) c.loop-exprs.invariant.good.all c.in_ok-expr-2.ensures.value) (grind (arith, size_added c.in_ok-add-2.ensures maybe_size, room_added c.in_ok-add-2.ensures, c.in_ok-takes.ensures.value.2, c.in_ok-expr-2.ensures.size))

pub returns-in_err-add-2-clause-reads : goal.returns-in_err-add-2-clause-reads
unfolding list commas
returns-in_err-add-2-clause-reads g c = grind (arith, loops)

pub returns-in_err-mark-clause-reads : goal.returns-in_err-mark-clause-reads
unfolding list commas
returns-in_err-mark-clause-reads g c = grind (arith, loops)

pub returns-clause-reads : goal.returns-clause-reads
unfolding list commas
returns-clause-reads g c = grind (arith, loops)
