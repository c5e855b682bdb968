use Rattle.std.proofs.Common.{◌≡◌, ◌^◌}
use Rattle.vectors_line.specs.Lines.{saturated}
use Rattle.vectors_line.proofs.line.leaf_count.Given as goal

abbrev pub invariant-loop-below : goal.invariant-loop-below
invariant-loop-below l = l.leaves ≡ saturated (2 ^ l._below)
