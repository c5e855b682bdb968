use Rattle.net_flatten_cells.proofs.NetLaws.{JoinsMade}
use Rattle.net_flatten_cells.proofs.nets.joins_of.Given as goal

abbrev pub invariant-loop-group : goal.invariant-loop-group
invariant-loop-group l = JoinsMade l.terminals l.leaves.numbers l.groups l.group l.joins l.net
