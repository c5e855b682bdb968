use Rattle.std.proofs.Common.{◌≡◌, ◌≤◌, filter, length}
use Rattle.std.specs.List.{range_with_len}
use Rattle.vectors.specs.Numbers.{is_swapped, number_at}
use Rattle.vectors.proofs.numbers.swapped.Given as goal

abbrev pub invariant-loop-below : goal.invariant-loop-below
invariant-loop-below l = record {
  number : l.number ≡ number_at l.seed l._below;
  count : l.count ≡ length (filter (is_swapped l.seed) (range_with_len 1 l._below));
  few : l.count ≤ l._below;
}
