use Rattle.std.proofs.Common.{ℕ, List, drop, false}
use Rattle.vlog_writer.specs.Pending.{pending}
use Rattle.nl_output.specs.Writing.{Begin, state, ToCome}
use Rattle.vlog_writer.proofs.file.lay_decls.Given as goal

abbrev pub invariant-loop-decl : goal.invariant-loop-decl
invariant-loop-decl g l =
    (b : Begin) (rest : List ℕ) → ToCome b (state g.O.Sink.receipt l.fn.sink l.fn.output) (pending false l.decls rest)
    → ToCome b (state g.O.Sink.receipt l.sink l.output) (pending l.due (drop l.decl-index l.decls) rest)
