use Rattle.net_hier.specs.declared.nodes.Node.TheVariants.{Port}
use Rattle.to_spice_rules.specs.Found.{NoneBefore}
use Rattle.to_spice_rules.proofs.connections.joined_in_port.Given as goal

abbrev pub invariant-loop-bit : goal.invariant-loop-bit
invariant-loop-bit l = NoneBefore l.cell (Port l.port l.bit)
