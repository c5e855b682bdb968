-- links of numbers are links of the nodes that they number
use Rattle.std.proofs.Common.{◌≡◌, ℕ, ◌++◌, ◌⊎◌, ◌↔◌, inl, inr, Bool, true, false, [], ◌∷◌, Option, Some, length, get_or, refl, sym, subst, arith, Contains, slice_get, if◌then◌else◌}
use Rattle.std.proofs.lemmas.Bool.{cases_lt}
use Rattle.std.proofs.lemmas.List.{get_or_past}
use Rattle.std.proofs.lemmas.List.Elements.{Contains-append_cases, Contains-append_left, Contains-append_right}
use Rattle.std.proofs.lemmas.Option.{slice_get-get_or, slice_get_within}
use Rattle.net_graph.specs.Walks.{IsLinked}
use Rattle.net_hier.specs.Cells.{HasLocalStep, IsLocallyConnected}
use Rattle.net_hier.specs.declared.cells.HCell.{HCell}
use Rattle.net_hier.specs.declared.nodes.Join.{Join}
use Rattle.net_hier.specs.declared.nodes.Node.{Node}
use Rattle.net_hier.specs.declared.nodes.Node.TheVariants.{Zero}
use Rattle.net_bits.specs.Flood.{AreMutual, IsNext}
use Rattle.net_bits.specs.Neighbours.{AreNeighbours, Neighbours, ends, other_ends, other_ends_of, same_node}
use Rattle.net_bits.proofs.Items.{Contains-cons_cases, Contains-cons_here, Contains-cons_there, Contains-map, Contains-from_map, Contains-flat_map, Contains-from_flat_map, no_member}
use Rattle.net_bits.proofs.Links.{linked-follows}
use Rattle.net_bits.proofs.Nodes.{once, same_node-Decides}

abbrev HasBoth : Node → Node → Join → Type 0
HasBoth x y join = ((join.a ≡ x) × (join.b ≡ y)) ⊎ ((join.a ≡ y) × (join.b ≡ x))

one_end : (b : Bool) (z y : Node) → Contains (if b then z ∷ [] else []) y → (b ≡ true) × (z ≡ y)
one_end true z y h = elim (Contains-cons_cases z [] y h) as (λ _. (true ≡ true) × (z ≡ y)) [ inl e ↦ (refl, e) | inr m ↦ absurd (no_member y m) ]
one_end false z y h = absurd (no_member y h)

has_one_end : (b : Bool) (z y : Node) → b ≡ true → z ≡ y → Contains (if b then z ∷ [] else []) y
has_one_end b z y t e = subst (λ c. Contains (if c then z ∷ [] else []) y) (sym t) (subst (λ w. Contains (z ∷ []) w) e (Contains-cons_here z []))

both-from_end : (x y : Node) (join : Join) → Contains (other_ends_of x join) y → HasBoth x y join
both-from_end x y join h =
    elim (Contains-append_cases (if same_node join.a x then join.b ∷ [] else []) (if same_node join.b x then join.a ∷ [] else []) y h) as (λ _. HasBoth x y join) [
      | inl m ↦ let r = one_end (same_node join.a x) join.b y m in inl ((same_node-Decides join.a x).0 r.0, r.1)
      | inr m ↦ let r = one_end (same_node join.b x) join.a y m in inr (r.1, (same_node-Decides join.b x).0 r.0)
    ]

end-from_both : (x y : Node) (join : Join) → HasBoth x y join → Contains (other_ends_of x join) y
end-from_both x y join h =
    let first = if same_node join.a x then join.b ∷ [] else [] in
    let second = if same_node join.b x then join.a ∷ [] else [] in
    elim h as (λ _. Contains (first ++ second) y) [
      | inl e ↦ Contains-append_left first second y (has_one_end (same_node join.a x) join.b y ((same_node-Decides join.a x).1 e.0) e.1)
      | inr e ↦ Contains-append_right first second y (has_one_end (same_node join.b x) join.a y ((same_node-Decides join.b x).1 e.1) e.0)
    ]

pub step-from_end : (cell : HCell) (x y : Node) → Contains (other_ends x cell.joins) y → HasLocalStep cell x y
step-from_end cell x y h =
    let r = Contains-from_flat_map (other_ends_of x) cell.joins y h in
    record { join = r.0; is_join = r.1; has_both = both-from_end x y r.0 r.2 }

pub end-from_step : (cell : HCell) (x y : Node) → HasLocalStep cell x y → Contains (other_ends x cell.joins) y
end-from_step cell x y s = Contains-flat_map (other_ends_of x) cell.joins s.join y s.is_join (end-from_both x y s.join s.has_both)

pub step_back : (cell : HCell) (x y : Node) → HasLocalStep cell x y → HasLocalStep cell y x
step_back cell x y s = record { join = s.join; is_join = s.is_join; has_both = elim s.has_both as (λ _. HasBoth y x s.join) [ inl e ↦ inr e | inr e ↦ inl e ] }

-- both nodes of a step are joined
pub step_joined : (cell : HCell) (x y : Node) → HasLocalStep cell x y → Contains (ends cell.joins) x
step_joined cell x y s = Contains-flat_map (λ (join : Join). join.a ∷ (join.b ∷ [])) cell.joins s.join x s.is_join
    (elim s.has_both as (λ _. Contains (s.join.a ∷ (s.join.b ∷ [])) x) [
      | inl e ↦ subst (λ z. Contains (s.join.a ∷ (s.join.b ∷ [])) z) e.0 (Contains-cons_here s.join.a (s.join.b ∷ []))
      | inr e ↦ Contains-cons_there s.join.a (s.join.b ∷ []) x (subst (λ z. Contains (s.join.b ∷ []) z) e.1 (Contains-cons_here s.join.b []))
    ])

same_some : {A : Type 0} (o : Option A) (x y : A) → o ≡ Some x → o ≡ Some y → x ≡ y
same_some o x y p q = cc

module _ (cell : HCell) (neighbours : Neighbours) (are : AreNeighbours cell neighbours) where
  abbrev pub Is : ℕ → Node → Type 0
  Is v x = slice_get neighbours.nodes v ≡ Some x

  pub one_place : (v w : ℕ) (x : Node) → Is v x → Is w x → v ≡ w
  one_place v w x = once neighbours.nodes are.nodes.in_order v w x

  -- a neighbour by number is a neighbour by a join
  pub step_of_next : (v w : ℕ) (x : Node) → Is v x → IsNext neighbours.lists v w → (y : Node) × Is w y × HasLocalStep cell x y
  step_of_next v w x h n =
      let m = Contains-map (slice_get neighbours.nodes) (get_or neighbours.lists v []) w n in
      let r = Contains-from_map Some (other_ends x cell.joins) (slice_get neighbours.nodes w) (subst (λ t. Contains t (slice_get neighbours.nodes w)) (are.lists.ends v x h) m) in
      (r.0, sym r.2, step-from_end cell x r.0 r.1)

  pub next_of_step : (v : ℕ) (x y : Node) → Is v x → HasLocalStep cell x y → (w : ℕ) × Is w y × IsNext neighbours.lists v w
  next_of_step v x y h s =
      let m = Contains-map Some (other_ends x cell.joins) y (end-from_step cell x y s) in
      let r = Contains-from_map (slice_get neighbours.nodes) (get_or neighbours.lists v []) (Some y) (subst (λ t. Contains t (Some y)) (sym (are.lists.ends v x h)) m) in
      (r.0, r.2, r.1)

  node_at : (v w : ℕ) → IsNext neighbours.lists v w → (x : Node) × Is v x
  node_at v w n = elim (cases_lt v (length neighbours.lists)) as (λ _. (x : Node) × Is v x) [
    | inl l ↦ (get_or neighbours.nodes v Zero, slice_get-get_or neighbours.nodes v Zero (omega (arith, are.lists.len)))
    | inr p ↦ absurd (no_member w (subst (λ t. Contains t w) (get_or_past neighbours.lists v [] p) n))
  ]

  pub are_mutual : AreMutual neighbours.lists
  are_mutual = record {
    below = λ v w n.
        let x = node_at v w n in
        let s = step_of_next v w x.0 x.1 n in
        omega (arith, are.lists.len, slice_get_within neighbours.nodes w s.0 s.1);
    both = λ v w n.
        let x = node_at v w n in
        let s = step_of_next v w x.0 x.1 n in
        let b = next_of_step w s.0 x.0 s.1 (step_back cell x.0 s.0 s.2) in
        subst (λ t. IsNext neighbours.lists w t) (one_place b.0 v x.0 b.1 x.1) b.2;
  }

  -- numbers are linked exactly where their nodes are locally connected
  pub links_of_nodes : (v w : ℕ) (x y : Node) → Is v x → Is w y → IsLinked (IsNext neighbours.lists) v w ↔ IsLocallyConnected cell x y
  links_of_nodes v w x y hv hw = (
    λ c. let r = linked-follows (IsNext neighbours.lists) (HasLocalStep cell) Is (λ a b u s i. step_of_next a b u i s) v w x c hv in
        subst (λ t. IsLocallyConnected cell x t) (same_some (slice_get neighbours.nodes w) r.0 y r.1 hw) r.2,
    λ c. let r = linked-follows (HasLocalStep cell) (IsNext neighbours.lists) (λ z n. Is n z) (λ a b u s i. next_of_step u a b i s) x y v c hv in
        subst (λ t. IsLinked (IsNext neighbours.lists) v t) (one_place r.0 w y r.1 hw) r.2,
  )
