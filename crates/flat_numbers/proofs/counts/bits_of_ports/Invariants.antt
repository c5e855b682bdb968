use Rattle.std.proofs.Common.{◌≡◌, ◌-◌, ◌^◌, min, sum_by, take}
use Rattle.net_hier.specs.Cells.{width_of}
use Rattle.flat_numbers.proofs.counts.bits_of_ports.Given as goal

abbrev pub invariant-loop-port : goal.invariant-loop-port
invariant-loop-port l = l.bits ≡ min (2 ^ 64 - 1) (sum_by (λ port. width_of port.range) (take l.port-index l.cell.ports))
