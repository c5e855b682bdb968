use Rattle.std.proofs.Common.{length}
use Rattle.std.specs.List.{AllByRecursion}
use Rattle.edif_values.specs.Values.{IsWord}
use Rattle.edif_value_laws.proofs.words.words_of.Given as goal

abbrev pub invariant-loop-left : goal.invariant-loop-left
invariant-loop-left l = AllByRecursion IsWord l.left → AllByRecursion IsWord l.head.ports

abbrev pub decreases-loop-left : goal.decreases-loop-left
decreases-loop-left l = length l.left
