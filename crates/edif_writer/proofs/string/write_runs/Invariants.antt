use Rattle.std.proofs.Common.{ℕ, List, false, length}
use Rattle.edif_writer.specs.Strings.{written}
use Rattle.nl_output.specs.Writing.{Begin, state, ToCome}
use Rattle.edif_writer.proofs.string.write_runs.Given as goal

abbrev pub invariant-loop-rest : goal.invariant-loop-rest
invariant-loop-rest g l =
    (b : Begin) (rest : List ℕ) → ToCome b (state g.O.Sink.receipt l.fn.sink l.fn.output) (written false l.bytes rest) → ToCome b (state g.O.Sink.receipt l.sink l.output) (written false l.rest rest)

abbrev pub decreases-loop-rest : goal.decreases-loop-rest
decreases-loop-rest g l = length l.rest
