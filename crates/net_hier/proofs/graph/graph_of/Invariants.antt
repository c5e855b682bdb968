use Rattle.std.proofs.Common.{◌≡◌, map, take}
use Rattle.net_hier.specs.Design.{below_of}
use Rattle.net_hier.proofs.graph.graph_of.Given as goal

abbrev pub invariant-loop-cell : goal.invariant-loop-cell
invariant-loop-cell l = l.graph.items ≡ map below_of (take l.cell-index l.cells)
