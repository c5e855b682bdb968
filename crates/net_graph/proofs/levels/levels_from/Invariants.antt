use Rattle.net_graph.proofs.Levelling.{StaysIn}
use Rattle.net_graph.proofs.Walking.{work}
use Rattle.net_graph.proofs.levels.levels_from.Given as goal

abbrev pub invariant-loop-visit : goal.invariant-loop-visit
invariant-loop-visit l = StaysIn l.graph l.seen.items l.stack.items

abbrev pub decreases-loop-visit : goal.decreases-loop-visit
decreases-loop-visit l = work l.graph l.seen.items l.stack.items
