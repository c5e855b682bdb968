use Rattle.edif_planning.proofs.NumberLaws.{AreNumbersUpTo}
use Rattle.edif_planning.proofs.numbers.numbers_of.Given as goal

abbrev pub invariant-loop-place : goal.invariant-loop-place
invariant-loop-place l = AreNumbersUpTo l.hier l.count l.place l.numbers.items
