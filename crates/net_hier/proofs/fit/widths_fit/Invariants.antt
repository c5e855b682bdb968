use Rattle.net_hier.specs.Valid.{IsPortWidth}
use Rattle.net_hier.proofs.Fitting.{HoldsBefore}
use Rattle.net_hier.proofs.fit.widths_fit.Given as goal

abbrev pub invariant-loop-port : goal.invariant-loop-port
invariant-loop-port l = HoldsBefore IsPortWidth l.ports l.port-index
