use Rattle.std.proofs.Common.{ℕ, List, subst}
use Rattle.nl_output.specs.Writing.{state, ToCome}
use Rattle.vlog_writer.proofs.Steps.{pending_start, pending_next, pending_end}
use Rattle.vlog_writer.proofs.file.lay_decls.Goals as goal

pub loop-decl-preserved : goal.loop-decl-preserved
loop-decl-preserved g c b rest s =
    c.write.ensures b _ (c.put.ensures b _ (c.put_break.ensures b _
    (subst (λ (z : List ℕ). ToCome b (state g.O.Sink.receipt c.loop-decl.sink c.loop-decl.output) z)
    (pending_next c.loop-decl.due c.args.decls.now c.loop-decl.decl-index c.decl-item.result rest c.loop-decl-test.true c.decl-item.is) (c.loop-decl.invariant b rest s))))

pub returns : goal.returns
returns g c b rest s =
    c.put_end.ensures b rest
    (subst (λ (z : List ℕ). ToCome b (state g.O.Sink.receipt c.loop-decl.sink c.loop-decl.output) z)
    (pending_end c.loop-decl.due c.args.decls.now c.loop-decl.decl-index rest c.loop-decl-test.false)
    (c.loop-decl.invariant b rest (subst (λ (z : List ℕ). ToCome b (state g.O.Sink.receipt c.args.sink.now c.args.output.now) z) (pending_start c.args.decls.now rest) s)))
