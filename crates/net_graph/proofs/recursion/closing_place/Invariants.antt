use Rattle.net_graph.proofs.Closing.{Searches}
use Rattle.net_graph.proofs.recursion.closing_place.Given as goal

abbrev pub invariant-loop-place : goal.invariant-loop-place
invariant-loop-place l = Searches l.graph l.number l.numbers l.place l.marks.items
