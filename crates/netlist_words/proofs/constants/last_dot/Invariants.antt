use Rattle.std.proofs.Common.{◌≤◌, drop, length}
use Rattle.nl_base.specs.RangeForm.{IsFreeOf}
use Rattle.netlist_words.proofs.constants.last_dot.Given as goal

abbrev pub invariant-loop-end : goal.invariant-loop-end
invariant-loop-end l = record {
  within : l.end ≤ length l.word;
  free : IsFreeOf 46 (drop l.end l.word);
}

abbrev pub decreases-loop-end : goal.decreases-loop-end
decreases-loop-end l = l.end
