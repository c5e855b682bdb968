-- Nodes that are equal and nodes that their order ties are the same.
use Rattle.std.specs.Prelude.{◌≡◌, ℕ, ◌==◌, ◌&&◌, refl}
use Rattle.std.proofs.Common.{arith}
use Rattle.std.specs.declared.cmp.Ordering.TheVariants.{Equal}
use Rattle.std.specs.Ordering.{nat_cmp, eq_by_cmp, is_eq, ordering_then}
use Rattle.std.proofs.lemmas.Bool.Decides.{nat_tests}
use Rattle.net_hier.specs.Nodes.{node_cmp}
use Rattle.net_hier.specs.contracts.nodes.NodePartialEq.TheImpl.{eq-value}
use Rattle.net_hier.specs.declared.nodes.Node.{Node}
use Rattle.net_hier.specs.declared.nodes.Node.TheVariants.{Port, Pin, Net, Zero, One}

one_field : (a b : ℕ) → (a == b) ≡ is_eq (ordering_then (nat_cmp a b) Equal)
one_field a b = grind (arith, nat_tests)

two_fields : (a b c d : ℕ) → ((a == c) && (b == d)) ≡ is_eq (ordering_then (nat_cmp a c) (ordering_then (nat_cmp b d) Equal))
two_fields a b c d = grind (arith, nat_tests)

three_fields : (a b c d e f : ℕ) → ((a == d) && ((b == e) && (c == f))) ≡ is_eq (ordering_then (nat_cmp a d) (ordering_then (nat_cmp b e) (ordering_then (nat_cmp c f) Equal)))
three_fields a b c d e f = grind (arith, nat_tests)

pub node_ties : (x y : Node) → eq-value.it x y ≡ eq_by_cmp node_cmp x y
node_ties (Port a b) (Port c d) = two_fields a b c d
node_ties (Pin i a b) (Pin j c d) = three_fields i a b j c d
node_ties (Net a) (Net b) = one_field a b
node_ties Zero Zero = refl
node_ties One One = refl
node_ties x y = refl
