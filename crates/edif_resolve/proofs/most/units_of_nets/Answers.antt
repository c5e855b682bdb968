use Rattle.std.proofs.Common.{◌-◌, ◌^◌, arith}
use Rattle.edif_resolve.specs.Most.{net_units}
use Rattle.edif_resolve.proofs.Bounding.{sum_done}
use Rattle.edif_resolve.proofs.most.units_of_nets.Goals as goal

pub returns : goal.returns
returns c = sum_done net_units c.args.nets.now c.loop-net.net-index (omega arith) (2 ^ 64 - 1) c.loop-net.units c.loop-net.invariant
