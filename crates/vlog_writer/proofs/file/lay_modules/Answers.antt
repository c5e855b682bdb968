use Rattle.std.proofs.Common.{ℕ, List, subst}
use Rattle.nl_output.specs.Writing.{state, ToCome}
use Rattle.vlog_writer.proofs.Steps.{modules_next, modules_end}
use Rattle.vlog_writer.proofs.file.lay_modules.Goals as goal

pub loop-module-preserved : goal.loop-module-preserved
loop-module-preserved g c b rest s =
    c.lay_next_module.ensures b _
    (subst (λ (z : List ℕ). ToCome b (state g.O.Sink.receipt c.loop-module.sink c.loop-module.output) z)
    (modules_next c.loop-module.before c.args.modules.now c.loop-module.module-index c.module-item.result rest c.loop-module-test.true c.module-item.is) (c.loop-module.invariant b rest s))

pub returns : goal.returns
returns g c b rest s =
    subst (λ (z : List ℕ). ToCome b (state g.O.Sink.receipt c.loop-module.sink c.loop-module.output) z)
    (modules_end c.loop-module.before c.args.modules.now c.loop-module.module-index rest c.loop-module-test.false) (c.loop-module.invariant b rest s)
