use Rattle.std.proofs.Common.{ℕ, List, drop}
use Rattle.edif_writer.specs.Layout.{all, lines}
use Rattle.nl_output.specs.Writing.{Begin, state, ToCome}
use Rattle.edif_writer.proofs.forms.lay_each.Given as goal

abbrev pub invariant-loop-item : goal.invariant-loop-item
invariant-loop-item g l =
    (b : Begin) (rest : List ℕ) → ToCome b (state g.O.Sink.receipt l.fn.sink l.fn.output) (lines l.indent (all g.T.OnLines.block l.items) rest)
    → ToCome b (state g.O.Sink.receipt l.sink l.output) (lines l.indent (all g.T.OnLines.block (drop l.item-index l.items)) rest)
