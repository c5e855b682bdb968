use Rattle.std.proofs.Common.{take}
use Rattle.net_graph.specs.WorkList.{MarksNumbers}
use Rattle.net_graph.proofs.reach.mark_numbers.Given as goal

abbrev pub invariant-loop-number : goal.invariant-loop-number
invariant-loop-number l = MarksNumbers l.initial.marks.items l.initial.waiting.items (take l.number-index l.numbers) l.marks.items l.waiting.items
