use Rattle.std.proofs.Common.{◌<◌}
use Rattle.net_hier.proofs.Fitting.{HoldsBefore}
use Rattle.net_hier.proofs.fit.instances_fit.Given as goal

abbrev pub invariant-loop-instance : goal.invariant-loop-instance
invariant-loop-instance l = HoldsBefore (λ instance. instance.cell < l.count) l.instances l.instance-index
