use Rattle.std.proofs.Common.{◌≡◌, ◌-◌, ◌^◌, min, sum_by, take}
use Rattle.edif_resolve.specs.Most.{net_units}
use Rattle.edif_resolve.proofs.most.units_of_nets.Given as goal

abbrev pub invariant-loop-net : goal.invariant-loop-net
invariant-loop-net l = l.units ≡ min (2 ^ 64 - 1) (sum_by (λ net. net_units net.now) (take l.net-index l.nets))
