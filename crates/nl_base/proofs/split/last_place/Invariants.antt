use Rattle.std.proofs.Common.{◌≤◌, drop, length}
use Rattle.nl_base.specs.RangeForm.{IsFreeOf}
use Rattle.nl_base.proofs.split.last_place.Given as goal

abbrev pub invariant-loop-end : goal.invariant-loop-end
invariant-loop-end l = record {
  within : l.end ≤ length l.bytes;
  free : IsFreeOf l.byte (drop l.end l.bytes);
}

abbrev pub decreases-loop-end : goal.decreases-loop-end
decreases-loop-end l = l.end
