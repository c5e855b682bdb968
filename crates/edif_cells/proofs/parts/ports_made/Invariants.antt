use Rattle.std.proofs.Common.{◌≡◌, map, take}
use Rattle.edif_design.specs.Design.{port_value}
use Rattle.edif_rules.specs.Lists.{seen}
use Rattle.edif_cells.proofs.parts.ports_made.Given as goal

abbrev pub invariant-loop-port : goal.invariant-loop-port
invariant-loop-port l = l.made ≡ map port_value (seen (take l.port-index l.ports))
