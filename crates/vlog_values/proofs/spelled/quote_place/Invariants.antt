use Rattle.std.proofs.Common.{take}
use Rattle.nl_base.specs.RangeForm.{IsFreeOf}
use Rattle.vlog_values.proofs.spelled.quote_place.Given as goal

abbrev pub invariant-loop-at : goal.invariant-loop-at
invariant-loop-at l = IsFreeOf 39 (take l.at l.bytes)
