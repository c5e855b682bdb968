use Rattle.std.proofs.Common.{ℕ, List, drop}
use Rattle.edif_writer.specs.Layout.{each, spaced}
use Rattle.nl_output.specs.Writing.{Begin, state, ToCome}
use Rattle.edif_writer.proofs.forms.write_each.Given as goal

abbrev pub invariant-loop-item : goal.invariant-loop-item
invariant-loop-item g l =
    (b : Begin) (rest : List ℕ) → ToCome b (state g.O.Sink.receipt l.fn.sink l.fn.output) (spaced (each g.T.OnLine.form l.items) rest)
    → ToCome b (state g.O.Sink.receipt l.sink l.output) (spaced (each g.T.OnLine.form (drop l.item-index l.items)) rest)
