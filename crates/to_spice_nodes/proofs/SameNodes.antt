-- Nodes that are the same.
use Rattle.std.proofs.Common.{◌≡◌, ◌&&◌, Bool, true, false, eqb, refl, sym, ◌∙◌, ap, subst}
use Rattle.std.specs.Bool.{Decides}
use Rattle.std.proofs.lemmas.Bool.{eqb-true}
use Rattle.net_hier.specs.NodeTies.{node_ties}
use Rattle.net_hier.specs.contracts.nodes.NodeEq.TheImpl.Laws.{laws-law}
use Rattle.net_hier.specs.contracts.nodes.NodePartialEq.TheImpl.{eq-value}
use Rattle.net_hier.specs.declared.nodes.Node.{Node}
use Rattle.net_hier.specs.declared.nodes.Node.TheVariants.{Port, Pin, Net, Zero, One}
use Rattle.net_bits.specs.Neighbours.{same_node}

both : (p q : Bool) → (p && q) ≡ true → (p ≡ true) × (q ≡ true)
both true true h = (refl, refl)
both true false h = cc
both false q h = cc

eq_same : (x y : Node) → eq-value.it x y ≡ true → x ≡ y
eq_same (Port a b) (Port c d) h =
    let r = both (eqb a c) (eqb b d) h in
    λ i. Port (eqb-true a c r.0 i) (eqb-true b d r.1 i)
eq_same (Pin i a b) (Pin j c d) h =
    let r = both (eqb i j) (eqb a c && eqb b d) h in
    let s = both (eqb a c) (eqb b d) r.1 in
    λ k. Pin (eqb-true i j r.0 k) (eqb-true a c s.0 k) (eqb-true b d s.1 k)
eq_same (Net a) (Net b) h = ap Net (eqb-true a b h)
eq_same Zero Zero h = refl
eq_same One One h = refl
eq_same x y h = cc

-- the test tells whether they are the same
pub same_node-Decides : (x y : Node) → Decides (same_node x y) (x ≡ y)
same_node-Decides x y = (λ h. eq_same x y (node_ties x y ∙ h), λ e. sym (node_ties x y) ∙ subst (λ z. eq-value.it x z ≡ true) e (laws-law.refl x))

pub same_node-symm : (x y : Node) → same_node x y ≡ same_node y x
same_node-symm x y = sym (node_ties x y) ∙ (laws-law.symm x y ∙ node_ties y x)
