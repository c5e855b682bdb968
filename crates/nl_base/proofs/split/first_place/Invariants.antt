use Rattle.std.proofs.Common.{take}
use Rattle.nl_base.specs.RangeForm.{IsFreeOf}
use Rattle.nl_base.proofs.split.first_place.Given as goal

abbrev pub invariant-loop-at : goal.invariant-loop-at
invariant-loop-at l = IsFreeOf l.byte (take l.at l.bytes)
