use Rattle.net_graph.proofs.Walking.{Keeps, work}
use Rattle.net_graph.proofs.order.postorder.Given as goal

abbrev pub invariant-loop-visit : goal.invariant-loop-visit
invariant-loop-visit l = Keeps l.graph l.start l.seen.items l.listed.items l.order.items l.stack.items

abbrev pub decreases-loop-visit : goal.decreases-loop-visit
decreases-loop-visit l = work l.graph l.seen.items l.stack.items
