use Rattle.std.proofs.Common.{◌≡◌, ◌≤◌, ◌++◌, drop}
use Rattle.edif_design.specs.Design.{counts_from}
use Rattle.edif_resolve.proofs.counts.counts_of.Given as goal

abbrev pub invariant-loop-mark : goal.invariant-loop-mark
invariant-loop-mark l = record {
  made : l.counts.items ++ counts_from l.count (drop l.mark-index l.marks) ≡ counts_from 0 l.marks;
  small : l.count ≤ l.mark-index;
}
