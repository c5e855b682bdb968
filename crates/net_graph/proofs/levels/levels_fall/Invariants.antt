use Rattle.std.proofs.Common.{ℕ, ◌<◌, List}
use Rattle.net_graph.specs.Graph.{HasList}
use Rattle.net_graph.specs.Levels.{AreUpTo, level_at}
use Rattle.net_graph.proofs.levels.levels_fall.Given as goal

abbrev pub invariant-loop-number : goal.invariant-loop-number
invariant-loop-number l = (outer : ℕ) (numbers : List ℕ) → outer < l.number → HasList l.graph outer numbers → AreUpTo l.levels (level_at l.levels outer) numbers
