use Rattle.std.proofs.Common.{◌≡◌, ◌+◌, ◌≤◌, [], length, sum_by}
use Rattle.net_bits.specs.Flood.{IsNext, IsNumbered, unspent}
use Rattle.net_bits.proofs.flood.flood_all.Given as goal

abbrev pub invariant-loop-root : goal.invariant-loop-root
invariant-loop-root g l = record {
  len : length l.numbers.items ≡ length l.adjacency.lists;
  numbered : IsNumbered (IsNext l.adjacency.lists) l.numbers.items l.root l.class [];
  few : l.class ≤ l.root;
  idle : l.work.items ≡ [];
  cost : l.steps + unspent l.numbers.items l.adjacency.lists ≤ l.fn.steps + sum_by length l.adjacency.lists;
}
