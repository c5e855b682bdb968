use Rattle.std.proofs.Common.{◌≡◌, take, flat_map}
use Rattle.std.specs.List.{enumerate_from}
use Rattle.to_spice_nodes.specs.Nodes.{port_pins}
use Rattle.to_spice_nodes.proofs.pins.pins_of.Given as goal

abbrev pub invariant-loop-number : goal.invariant-loop-number
invariant-loop-number l = l.pins.items ≡ flat_map (port_pins l.instance) (enumerate_from 0 (take l.number l.ports))
