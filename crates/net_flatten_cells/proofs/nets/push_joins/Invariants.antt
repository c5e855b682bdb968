use Rattle.std.proofs.Common.{◌≡◌, ◌++◌, map, take}
use Rattle.net_flatten_rules.specs.FlatDesign.{join_at}
use Rattle.net_flatten_cells.proofs.nets.push_joins.Given as goal

abbrev pub invariant-loop-place : goal.invariant-loop-place
invariant-loop-place l = l.joins ≡ l.fn.joins ++ map (join_at l.terminals l.leaves.numbers l.net) (take l.place-index l.members)
