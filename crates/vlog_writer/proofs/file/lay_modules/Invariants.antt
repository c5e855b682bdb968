use Rattle.std.proofs.Common.{ℕ, List, drop, true}
use Rattle.vlog_writer.specs.Forms.{file_lines}
use Rattle.vlog_writer.specs.Layout.{laid}
use Rattle.nl_output.specs.Writing.{Begin, state, ToCome}
use Rattle.vlog_writer.proofs.file.lay_modules.Given as goal

abbrev pub invariant-loop-module : goal.invariant-loop-module
invariant-loop-module g l =
    (b : Begin) (rest : List ℕ) → ToCome b (state g.O.Sink.receipt l.fn.sink l.fn.output) (laid (file_lines true l.modules) rest)
    → ToCome b (state g.O.Sink.receipt l.sink l.output) (laid (file_lines l.before (drop l.module-index l.modules)) rest)
