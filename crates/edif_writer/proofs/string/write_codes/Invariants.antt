use Rattle.std.proofs.Common.{ℕ, List, drop}
use Rattle.edif_writer.specs.Strings.{codes_text}
use Rattle.nl_output.specs.Writing.{Begin, state, ToCome}
use Rattle.edif_writer.proofs.string.write_codes.Given as goal

abbrev pub invariant-loop-byte : goal.invariant-loop-byte
invariant-loop-byte g l =
    (b : Begin) (rest : List ℕ) → ToCome b (state g.O.Sink.receipt l.fn.sink l.fn.output) (codes_text l.bytes rest) → ToCome b (state g.O.Sink.receipt l.sink l.output) (codes_text (drop l.byte-index l.bytes) rest)
