use Rattle.std.proofs.Common.{ℕ, List, drop}
use Rattle.vlog_writer.specs.Forms.{item_lines}
use Rattle.vlog_writer.specs.Layout.{all, laid}
use Rattle.nl_output.specs.Writing.{Begin, state, ToCome}
use Rattle.vlog_writer.proofs.item.lay_items.Given as goal

abbrev pub invariant-loop-item : goal.invariant-loop-item
invariant-loop-item g l =
    (b : Begin) (rest : List ℕ) → ToCome b (state g.O.Sink.receipt l.fn.sink l.fn.output) (laid (all item_lines l.items) rest)
    → ToCome b (state g.O.Sink.receipt l.sink l.output) (laid (all item_lines (drop l.item-index l.items)) rest)
