use Rattle.std.proofs.Common.{◌≡◌, ◌+◌, get_or, map, take}
use Rattle.net_hier.specs.declared.nodes.Node.TheVariants.{Zero}
use Rattle.net_bits.proofs.classes.nodes_at.Given as goal

abbrev pub invariant-loop-place : goal.invariant-loop-place
invariant-loop-place g l = record {
  nodes : l.nodes.items ≡ map (λ place. get_or l.adjacency.nodes place Zero) (take l.place-index l.places);
  cost : l.steps ≡ l.fn.steps + l.place-index;
}
