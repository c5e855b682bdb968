use Rattle.std.proofs.Common.{◌≡◌, take}
use Rattle.edif_design.specs.Reach.{those_meant}
use Rattle.edif_resolve.proofs.below.those_meant.Given as goal

abbrev pub invariant-loop-number : goal.invariant-loop-number
invariant-loop-number l = l.list ≡ those_meant (take l.number-index l.numbers)
