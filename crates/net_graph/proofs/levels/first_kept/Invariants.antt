use Rattle.std.proofs.Common.{ℕ, ◌<◌}
use Rattle.net_graph.specs.Levels.{FallsAt}
use Rattle.net_graph.proofs.levels.first_kept.Given as goal

abbrev pub invariant-loop-number : goal.invariant-loop-number
invariant-loop-number l = (outer : ℕ) → outer < l.number → FallsAt l.graph l.levels outer
