use Rattle.std.proofs.Common.{ℕ, List, drop}
use Rattle.nl_output.specs.Writing.{Begin, state, ToCome}
use Rattle.net_hier.specs.Paths.{Path}
use Rattle.flat_report.specs.Report.{terminals_then}
use Rattle.flat_classes.specs.Ways.{ArePaths}
use Rattle.flat_report.proofs.lines.put_terminals.Given as goal

abbrev pub invariant-loop-place : goal.invariant-loop-place
invariant-loop-place g l =
    (paths : List Path) → ArePaths l.hier.cells l.flat.spots paths → (b : Begin) (rest : List ℕ) →
    ToCome b (state g.O.Sink.receipt l.fn.sink l.fn.output) (terminals_then l.hier.cells l.flat.spots paths l.flat.terminals l.places rest)
    → ToCome b (state g.O.Sink.receipt l.sink l.output) (terminals_then l.hier.cells l.flat.spots paths l.flat.terminals (drop l.place-index l.places) rest)
