use Rattle.std.proofs.Common.{ℕ, ◌≤◌, List, length, map, take}
use Rattle.nl_output.specs.Writing.{Begin, state, ToCome}
use Rattle.flat_report.specs.Report.{names_then}
use Rattle.flat_classes.specs.Ways.{instance_name}
use Rattle.flat_report.proofs.path.put_above.Given as goal

abbrev pub invariant-loop-place : goal.invariant-loop-place
invariant-loop-place g l = record {
  within : l.place ≤ length l.above;
  to_come : (b : Begin) (rest : List ℕ) → ToCome b (state g.O.Sink.receipt l.fn.sink l.fn.output) (names_then (map (instance_name l.hier.cells l.spots) l.above) rest)
      → ToCome b (state g.O.Sink.receipt l.sink l.output) (names_then (map (instance_name l.hier.cells l.spots) (take l.place l.above)) rest);
}

abbrev pub decreases-loop-place : goal.decreases-loop-place
decreases-loop-place g l = l.place
