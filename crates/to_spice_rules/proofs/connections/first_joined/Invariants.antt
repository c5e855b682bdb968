use Rattle.net_hier.specs.declared.nodes.Node.TheVariants.{Port}
use Rattle.to_spice_rules.specs.Found.{NoneBefore}
use Rattle.to_spice_rules.proofs.connections.first_joined.Given as goal

abbrev pub invariant-loop-port : goal.invariant-loop-port
invariant-loop-port l = NoneBefore l.cell (Port l.port 0)
