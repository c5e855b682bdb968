use Rattle.std.proofs.Common.{◌+◌, ◌-◌, length}
use Rattle.net_graph.specs.Marks.{count}
use Rattle.net_graph.specs.WorkList.{IsUnderWay}
use Rattle.net_graph.proofs.reach.mark_reached.Given as goal

abbrev pub invariant-loop-number : goal.invariant-loop-number
invariant-loop-number l = IsUnderWay l.graph l.fn.marks.items l.start l.marks.items l.waiting.items

abbrev pub decreases-loop-number : goal.decreases-loop-number
decreases-loop-number l = length l.waiting.items + (length l.marks.items - count l.marks.items)
