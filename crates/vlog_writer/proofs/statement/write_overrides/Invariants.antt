use Rattle.std.proofs.Common.{ℕ, List, drop}
use Rattle.vlog_writer.specs.Forms.{override_form}
use Rattle.vlog_writer.specs.Layout.{each, further}
use Rattle.nl_output.specs.Writing.{Begin, state, ToCome}
use Rattle.vlog_writer.proofs.statement.write_overrides.Given as goal

abbrev pub invariant-loop-set : goal.invariant-loop-set
invariant-loop-set g l =
    (b : Begin) (rest : List ℕ) → ToCome b (state g.O.Sink.receipt l.fn.sink l.fn.output) (further (each override_form l.sets) rest)
    → ToCome b (state g.O.Sink.receipt l.sink l.output) (further (each override_form (drop l.set-index l.sets)) rest)
