use Rattle.std.proofs.Common.{ℕ, List, drop}
use Rattle.vlog_writer.specs.Layout.{between, each}
use Rattle.nl_output.specs.Writing.{Begin, state, ToCome}
use Rattle.vlog_writer.proofs.forms.write_between.Given as goal

abbrev pub invariant-loop-item : goal.invariant-loop-item
invariant-loop-item g l =
    (b : Begin) (rest : List ℕ) → ToCome b (state g.O.Sink.receipt l.fn.sink l.fn.output) (between l.fn.comma (each g.T.OnLine.form l.items) rest)
    → ToCome b (state g.O.Sink.receipt l.sink l.output) (between l.due (each g.T.OnLine.form (drop l.item-index l.items)) rest)
