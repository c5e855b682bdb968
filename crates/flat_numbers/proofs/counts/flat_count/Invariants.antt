use Rattle.flat_numbers.proofs.Counting.{KnowsCounts}
use Rattle.flat_numbers.proofs.counts.flat_count.Given as goal

abbrev pub invariant-loop-number : goal.invariant-loop-number
invariant-loop-number l = KnowsCounts l.cells l.number-items l.number-index l.counts.items
