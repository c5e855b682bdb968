use Rattle.net_hier.proofs.Fitting.{NamesBefore}
use Rattle.net_hier.proofs.fit.port_names_differ.Given as goal

abbrev pub invariant-loop-port : goal.invariant-loop-port
invariant-loop-port l = NamesBefore (λ port. port.name) l.ports l.port-index l.names
