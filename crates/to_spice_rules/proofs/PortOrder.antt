-- The order of port bits.
use Rattle.std.proofs.Common.{◌≡◌, ℕ, ◌<◌, ◌⊎◌, inl, inr, List, [], ◌∷◌, refl, sym, ◌∙◌, ap, subst, arith, Contains}
use Rattle.std.specs.Cmp.{nat_cmp_is}
use Rattle.std.specs.List.{AllByRecursion}
use Rattle.std.specs.List.Sorted.{IsStrictlySortedBy}
use Rattle.std.specs.Ordering.{nat_cmp, ordering_reverse, ordering_then}
use Rattle.std.specs.declared.cmp.Ordering.TheVariants.{Less, Equal, Greater}
use Rattle.std.proofs.lemmas.Bool.{cases_eq, cases_lt}
use Rattle.net_hier.specs.Nodes.{node_cmp, node_cmp_total}
use Rattle.net_hier.specs.declared.nodes.Node.{Node}
use Rattle.net_hier.specs.declared.nodes.Node.TheVariants.{Port, Pin, Net, Zero, One}
use Rattle.net_stars.proofs.Lists.{contains_cases}

-- a node is not before itself, nor before one that is before it
pub before_back : (x y : Node) → node_cmp x y ≡ Less → ¬ (node_cmp y x ≡ Less)
before_back x y h g = let e : Less ≡ Greater = sym h ∙ (node_cmp_total.antisymm x y ∙ ap ordering_reverse g) in cc

pub before_itself : (x : Node) → ¬ (node_cmp x x ≡ Less)
before_itself x h = before_back x x h h

fields_less : (p b q c : ℕ) → ordering_then (nat_cmp p q) (ordering_then (nat_cmp b c) Equal) ≡ Less → (p < q) ⊎ ((p ≡ q) × (b < c))
fields_less p b q c h = elim (cases_lt p q) as (λ _. (p < q) ⊎ ((p ≡ q) × (b < c))) [
  | inl l ↦ inl l
  | inr ge ↦ elim (cases_eq p q) as (λ _. (p < q) ⊎ ((p ≡ q) × (b < c))) [
    | inr ne ↦ absurd (
        let more : q < p = grind (arith, ge, ne) in
        let g : ordering_then Greater (ordering_then (nat_cmp b c) Equal) ≡ Less = subst (λ o. ordering_then o (ordering_then (nat_cmp b c) Equal) ≡ Less) (sym (nat_cmp_is p q Greater more)) h in cc)
    | inl e ↦
        let f : ordering_then (nat_cmp b c) Equal ≡ Less = subst (λ o. ordering_then o (ordering_then (nat_cmp b c) Equal) ≡ Less) (sym (nat_cmp_is p q Equal e)) h in
        elim (cases_lt b c) as (λ _. (p < q) ⊎ ((p ≡ q) × (b < c))) [
          | inl l ↦ inr (e, l)
          | inr le ↦ elim (cases_eq b c) as (λ _. (p < q) ⊎ ((p ≡ q) × (b < c))) [
            | inl same ↦ absurd (let g : ordering_then Equal Equal ≡ Less = subst (λ o. ordering_then o Equal ≡ Less) (sym (nat_cmp_is b c Equal same)) f in cc)
            | inr ne ↦ absurd (
                let more : c < b = grind (arith, le, ne) in
                let g : ordering_then Greater Equal ≡ Less = subst (λ o. ordering_then o Equal ≡ Less) (sym (nat_cmp_is b c Greater more)) f in cc)
          ]
        ]
  ]
]

pub port_before : (p b q c : ℕ) → node_cmp (Port p b) (Port q c) ≡ Less → (p < q) ⊎ ((p ≡ q) × (b < c))
port_before p b q c h = fields_less p b q c h

pub earlier_port : (p b q c : ℕ) → p < q → node_cmp (Port p b) (Port q c) ≡ Less
earlier_port p b q c l = ap (λ o. ordering_then o (ordering_then (nat_cmp b c) Equal)) (sym (nat_cmp_is p q Less l))

pub earlier_bit : (p b q c : ℕ) → p ≡ q → b < c → node_cmp (Port p b) (Port q c) ≡ Less
earlier_bit p b q c e l = ap (λ o. ordering_then o (ordering_then (nat_cmp b c) Equal)) (sym (nat_cmp_is p q Equal e)) ∙ ap (λ o. ordering_then o Equal) (sym (nat_cmp_is b c Less l))

-- what is before a port bit is one
pub only_ports_before : (x : Node) (q c : ℕ) → node_cmp x (Port q c) ≡ Less → (p : ℕ) × (b : ℕ) × (x ≡ Port p b)
only_ports_before (Port p b) q c h = (p, b, refl)
only_ports_before (Pin i p b) q c h = absurd (let g : Greater ≡ Less = h in cc)
only_ports_before (Net n) q c h = absurd (let g : Greater ≡ Less = h in cc)
only_ports_before Zero q c h = absurd (let g : Greater ≡ Less = h in cc)
only_ports_before One q c h = absurd (let g : Greater ≡ Less = h in cc)

-- of nodes in order the first is before each other
pub head_least : (m : Node) (ms : List Node) → IsStrictlySortedBy node_cmp (m ∷ ms) → (x : Node) → Contains (m ∷ ms) x → (m ≡ x) ⊎ (node_cmp m x ≡ Less)
unfolding IsStrictlySortedBy
head_least m ms sorted x h = elim (contains_cases m x ms h) as (λ _. (m ≡ x) ⊎ (node_cmp m x ≡ Less)) [
  | inl e ↦ inl e
  | inr later ↦ inr (all_less ms sorted.0 later)
]
  where
    all_less : (ns : List Node) → AllByRecursion (λ y. node_cmp m y ≡ Less) ns → Contains ns x → node_cmp m x ≡ Less
    all_less [] all k = absurd (let l = k.1 in omega (arith, l))
    all_less (n ∷ ns) all k = elim (contains_cases n x ns k) as (λ _. node_cmp m x ≡ Less) [
      | inl e ↦ subst (λ z. node_cmp m z ≡ Less) e all.0
      | inr rest ↦ all_less ns all.1 rest
    ]
