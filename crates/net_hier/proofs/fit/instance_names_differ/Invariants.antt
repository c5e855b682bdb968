use Rattle.net_hier.proofs.Fitting.{NamesBefore}
use Rattle.net_hier.proofs.fit.instance_names_differ.Given as goal

abbrev pub invariant-loop-instance : goal.invariant-loop-instance
invariant-loop-instance l = NamesBefore (λ instance. instance.name) l.instances l.instance-index l.names
