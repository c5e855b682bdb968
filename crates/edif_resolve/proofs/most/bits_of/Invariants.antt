use Rattle.std.proofs.Common.{◌≡◌, ◌-◌, ◌^◌, min, sum_by, take}
use Rattle.edif_resolve.specs.Most.{port_width}
use Rattle.edif_resolve.proofs.most.bits_of.Given as goal

abbrev pub invariant-loop-port : goal.invariant-loop-port
invariant-loop-port l = l.bits ≡ min (2 ^ 64 - 1) (sum_by (λ port. port_width port.now) (take l.port-index l.ports))
