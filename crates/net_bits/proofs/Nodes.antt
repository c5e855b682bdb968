-- nodes that are the same
use Rattle.std.proofs.Common.{◌≡◌, ℕ, ◌&&◌, ◌<◌, Bool, true, false, List, Some, get_or, refl, sym, ◌∙◌, ap, arith, subst, eqb, slice_get, inl, inr}
use Rattle.std.specs.Bool.{Decides}
use Rattle.std.specs.List.Sorted.{IsStrictlySortedBy}
use Rattle.std.proofs.lemmas.Bool.{eqb-true, cases_eq, cases_lt}
use Rattle.std.proofs.lemmas.Cmp.{eq_by_cmp_equiv}
use Rattle.std.proofs.lemmas.Option.{get_or_from_slice_get, slice_get_within}
use Rattle.std.proofs.lemmas.Map.Keys.{apart_from_distinct, IsDistinct-from_sorted}
use Rattle.net_hier.specs.Nodes.{node_cmp, node_cmp_total}
use Rattle.net_hier.specs.NodeTies.{node_ties}
use Rattle.net_hier.specs.contracts.nodes.NodePartialEq.TheImpl.{eq-value}
use Rattle.net_hier.specs.declared.nodes.Node.{Node}
use Rattle.net_hier.specs.declared.nodes.Node.TheVariants.{Port, Pin, Net, Zero, One}
use Rattle.net_bits.specs.Neighbours.{same_node}

two : (p q : Bool) → (p && q) ≡ true → (p ≡ true) × (q ≡ true)
two true true h = (refl, refl)
two true false h = cc
two false q h = cc

eq_same : (x y : Node) → eq-value.it x y ≡ true → x ≡ y
eq_same (Port a b) (Port c d) h =
    let r = two (eqb a c) (eqb b d) h in
    λ i. Port (eqb-true a c r.0 i) (eqb-true b d r.1 i)
eq_same (Pin i a b) (Pin j c d) h =
    let r = two (eqb i j) (eqb a c && eqb b d) h in
    let s = two (eqb a c) (eqb b d) r.1 in
    λ k. Pin (eqb-true i j r.0 k) (eqb-true a c s.0 k) (eqb-true b d s.1 k)
eq_same (Net a) (Net b) h = ap Net (eqb-true a b h)
eq_same Zero Zero h = refl
eq_same One One h = refl
eq_same x y h = cc

-- the test tells whether they are the same
pub same_node-Decides : (x y : Node) → Decides (same_node x y) (x ≡ y)
same_node-Decides x y = (λ h. eq_same x y (node_ties x y ∙ h), λ e. subst (λ z. same_node x z ≡ true) e ((eq_by_cmp_equiv node_cmp_total).refl x))

pub eq-Decides : (x y : Node) → Decides (eq-value.it x y) (x ≡ y)
eq-Decides x y = (λ h. eq_same x y h, λ e. node_ties x y ∙ (same_node-Decides x y).1 e)

pub same_node-other : (x y : Node) → (x ≡ y → ⊥) → same_node x y ≡ false
same_node-other x y apart = by (same_node x y) refl
  where
    by : (b : Bool) → same_node x y ≡ b → b ≡ false
    by true e = absurd (apart ((same_node-Decides x y).0 e))
    by false e = refl

-- a node of a list in order stands there once
pub once : (nodes : List Node) → IsStrictlySortedBy node_cmp nodes → (i j : ℕ) (x : Node) → slice_get nodes i ≡ Some x → slice_get nodes j ≡ Some x → i ≡ j
once nodes sorted i j x a b =
    elim (cases_eq i j) as (λ _. i ≡ j) [
      | inl e ↦ e
      | inr ne ↦ elim (cases_lt i j) as (λ _. i ≡ j) [
        | inl l ↦ absurd (earlier i j l a b)
        | inr g ↦ absurd (earlier j i (omega arith) b a)
      ]
    ]
  where
    earlier : (i j : ℕ) → i < j → slice_get nodes i ≡ Some x → slice_get nodes j ≡ Some x → ⊥
    earlier i j l a b =
        let apart = apart_from_distinct same_node nodes i j x (IsDistinct-from_sorted node_cmp nodes sorted) l (slice_get_within nodes j x b) in
        let e = get_or_from_slice_get nodes i x x a in
        let f = get_or_from_slice_get nodes j x x b in
        let t : same_node (get_or nodes i x) (get_or nodes j x) ≡ true = (same_node-Decides (get_or nodes i x) (get_or nodes j x)).1 (e ∙ sym f) in
        cc
