-- The order of nodes.
use Rattle.std.specs.Prelude.{ℕ, List, [], ◌∷◌}
use Rattle.std.specs.declared.cmp.Ordering.{Ordering}
use Rattle.std.specs.Cmp.{IsTotalOrder}
use Rattle.std.proofs.lemmas.Cmp.{then_total, on_total, nat_cmp_total, nat_list_cmp_total}
use Rattle.std.specs.Cmp.Lexicographic.{slice_cmp}
use Rattle.std.specs.Ordering.{nat_cmp, on, then_cmp}
use Rattle.net_hier.specs.declared.nodes.Node.{Node}
use Rattle.net_hier.specs.declared.nodes.Node.TheVariants.{Port, Pin, Net, Zero, One}

-- the place of a node's kind in the order of kinds
abbrev pub node_kind : Node → ℕ
node_kind (Port port bit) = 0
node_kind (Pin instance port bit) = 1
node_kind (Net net) = 2
node_kind Zero = 3
node_kind One = 4

-- the fields of a node from left to right
abbrev pub node_fields : Node → List ℕ
node_fields (Port port bit) = port ∷ bit ∷ []
node_fields (Pin instance port bit) = instance ∷ port ∷ bit ∷ []
node_fields (Net net) = net ∷ []
node_fields Zero = []
node_fields One = []

-- the order of two nodes: that of their kinds, and then of their fields
abbrev pub node_cmp : Node → Node → Ordering
node_cmp = then_cmp (on node_kind nat_cmp) (on node_fields (slice_cmp nat_cmp))

-- it is a total order
pub node_cmp_total : IsTotalOrder node_cmp
node_cmp_total = then_total (on_total node_kind nat_cmp_total) (on_total node_fields nat_list_cmp_total)
