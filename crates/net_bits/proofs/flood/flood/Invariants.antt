use Rattle.std.proofs.Common.{◌≡◌, ◌+◌, ◌≤◌, length}
use Rattle.net_bits.specs.Flood.{unspent}
use Rattle.net_bits.proofs.Cost.{owed, unnumbered}
use Rattle.net_bits.proofs.Flooding.{IsFlooding, IsVisiting}
use Rattle.net_bits.proofs.flood.flood.Given as goal

abbrev pub invariant-loop-node : goal.invariant-loop-node
invariant-loop-node g l = record {
  flooding : IsFlooding l.adjacency.lists l.numbers l.root l.class l.work.items;
  cost : l.steps + (owed l.adjacency.lists l.work.items + unspent l.numbers l.adjacency.lists) ≤ l.fn.steps + unspent l.fn.numbers l.adjacency.lists;
}

abbrev pub decreases-loop-node : goal.decreases-loop-node
decreases-loop-node g l = length l.work.items + unnumbered l.numbers

abbrev pub invariant-loop-place : goal.invariant-loop-place
invariant-loop-place g l = record {
  visiting : IsVisiting l.adjacency.lists l.numbers l.root l.class l.node l.place l.work.items (owed l.adjacency.lists l.initial.work.items + unspent l.initial.numbers l.adjacency.lists) (length l.initial.work.items + unnumbered l.initial.numbers);
  steps : l.steps ≡ l.initial.steps + l.place;
}
