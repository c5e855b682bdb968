use Rattle.std.proofs.Common.{ℕ, List, drop}
use Rattle.nl_output.specs.Writing.{Begin, state, ToCome}
use Rattle.net_hier.specs.Paths.{Path}
use Rattle.flat_report.specs.Report.{nets_then}
use Rattle.flat_classes.specs.Ways.{ArePaths}
use Rattle.flat_report.proofs.reporting.put_nets.Given as goal

abbrev pub invariant-loop-group : goal.invariant-loop-group
invariant-loop-group g l =
    (paths : List Path) → ArePaths l.hier.cells l.flat.spots paths → (b : Begin) (rest : List ℕ) →
    ToCome b (state g.O.Sink.receipt l.fn.sink l.fn.output) (nets_then l.hier.cells l.flat.spots paths l.flat.terminals l.members rest)
    → ToCome b (state g.O.Sink.receipt l.sink l.output) (nets_then l.hier.cells l.flat.spots paths l.flat.terminals (drop l.group l.members) rest)
