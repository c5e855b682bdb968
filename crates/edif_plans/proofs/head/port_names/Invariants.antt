use Rattle.std.proofs.Common.{◌≡◌, ◌++◌, drop, map}
use Rattle.edif_written.specs.Naming.{seen}
use Rattle.net_hier.specs.declared.cells.HPort.{HPort}
use Rattle.edif_plans.proofs.head.port_names.Given as goal

abbrev pub invariant-loop-port : goal.invariant-loop-port
invariant-loop-port l = seen l.names.items ++ map (λ (x : HPort). x.name) (drop l.port-index l.ports) ≡ map (λ (x : HPort). x.name) l.ports
