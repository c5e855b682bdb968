use Rattle.std.proofs.Common.{◌≡◌, map, take}
use Rattle.net_hier.proofs.graph.below_cell.Given as goal

abbrev pub invariant-loop-instance : goal.invariant-loop-instance
invariant-loop-instance l = l.numbers ≡ map (λ instance. instance.cell) (take l.instance-index l.cell.instances)
