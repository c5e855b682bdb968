use Rattle.std.proofs.Common.{ℕ, List, subst, true}
use Rattle.nl_output.specs.Writing.{state, ToCome}
use Rattle.vlog_writer.specs.Forms.{override_form}
use Rattle.vlog_writer.proofs.Steps.{between_next, between_end}
use Rattle.vlog_writer.proofs.statement.write_overrides.Goals as goal

pub loop-set-preserved : goal.loop-set-preserved
loop-set-preserved g c b rest s =
    c.write_override.ensures b _ (c.put.ensures b _
    (subst (λ (z : List ℕ). ToCome b (state g.O.Sink.receipt c.loop-set.sink c.loop-set.output) z)
    (between_next override_form true c.args.sets.now c.loop-set.set-index c.set-item.result rest c.loop-set-test.true c.set-item.is) (c.loop-set.invariant b rest s)))

pub returns : goal.returns
returns g c b rest s =
    subst (λ (z : List ℕ). ToCome b (state g.O.Sink.receipt c.loop-set.sink c.loop-set.output) z)
    (between_end override_form true c.args.sets.now c.loop-set.set-index rest c.loop-set-test.false) (c.loop-set.invariant b rest s)
