use Rattle.std.proofs.Common.{ℕ, List, drop}
use Rattle.nl_output.specs.Writing.{Begin, state, ToCome}
use Rattle.net_hier.specs.Paths.{Path}
use Rattle.flat_report.specs.Report.{leaves_then}
use Rattle.flat_classes.specs.Ways.{ArePaths}
use Rattle.flat_report.proofs.reporting.put_leaves.Given as goal

abbrev pub invariant-loop-leaf : goal.invariant-loop-leaf
invariant-loop-leaf g l =
    (paths : List Path) → ArePaths l.hier.cells l.spots paths → (b : Begin) (rest : List ℕ) →
    ToCome b (state g.O.Sink.receipt l.fn.sink l.fn.output) (leaves_then l.hier.cells l.spots paths l.leaves rest)
    → ToCome b (state g.O.Sink.receipt l.sink l.output) (leaves_then l.hier.cells l.spots paths (drop l.leaf-index l.leaves) rest)
