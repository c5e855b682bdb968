use Rattle.std.proofs.Common.{ℕ, ◌<◌}
use Rattle.net_graph.specs.Graph.{ReachesItself}
use Rattle.net_graph.proofs.recursion.search_recursion.Given as goal

abbrev pub invariant-loop-number : goal.invariant-loop-number
invariant-loop-number l = (earlier : ℕ) → earlier < l.number → ¬ ReachesItself l.graph earlier
