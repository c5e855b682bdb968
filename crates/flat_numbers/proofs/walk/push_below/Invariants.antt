use Rattle.std.proofs.Common.{◌≡◌, ◌≤◌, ◌++◌, drop, length, reverse}
use Rattle.flat_numbers.specs.Spots.{spots_below}
use Rattle.flat_numbers.proofs.walk.push_below.Given as goal

abbrev pub invariant-loop-place : goal.invariant-loop-place
invariant-loop-place l = record {
  within : l.place ≤ length l.instances;
  pushed : l.stack.items ≡ l.fn.stack.items ++ reverse (drop l.place (spots_below l.parent 0 l.instances));
}

abbrev pub decreases-loop-place : goal.decreases-loop-place
decreases-loop-place l = l.place
