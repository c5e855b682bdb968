use Rattle.net_hier.specs.Valid.{IsJoinOf}
use Rattle.net_hier.proofs.Fitting.{HoldsBefore}
use Rattle.net_hier.proofs.fit.joins_fit.Given as goal

abbrev pub invariant-loop-join : goal.invariant-loop-join
invariant-loop-join l = HoldsBefore (IsJoinOf l.cells l.cell) l.cell.joins l.join-index
