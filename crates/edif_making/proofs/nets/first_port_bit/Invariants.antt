use Rattle.std.proofs.Common.{◌≡◌, drop}
use Rattle.edif_plans.specs.NetNames.{first_port_bit}
use Rattle.edif_making.proofs.nets.first_port_bit.Given as goal

abbrev pub invariant-loop-node : goal.invariant-loop-node
invariant-loop-node l = first_port_bit (drop l.node-index l.nodes) ≡ first_port_bit l.nodes
