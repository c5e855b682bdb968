use Rattle.std.proofs.Common.{ℕ, List, drop}
use Rattle.nl_output.specs.Writing.{Begin, state, ToCome}
use Rattle.net_hier.specs.Paths.{Path}
use Rattle.flat_report.specs.Report.{nets_then}
use Rattle.flat_classes.specs.Ways.{ArePaths}
use Rattle.net_lint.specs.Groups.{sets_of}
use Rattle.net_lint.proofs.linting.put_sets.Given as goal

abbrev pub invariant-loop-first : goal.invariant-loop-first
invariant-loop-first g l =
    (paths : List Path) → ArePaths l.hier.cells l.flat.spots paths → (b : Begin) (rest : List ℕ) →
    ToCome b (state g.O.Sink.receipt l.fn.sink l.fn.output) (nets_then l.hier.cells l.flat.spots paths l.flat.terminals (sets_of l.flat.groups l.drivers l.firsts) rest)
    → ToCome b (state g.O.Sink.receipt l.sink l.output) (nets_then l.hier.cells l.flat.spots paths l.flat.terminals (sets_of l.flat.groups l.drivers (drop l.first-index l.firsts)) rest)
