-- A graph of which no number reaches itself has a postorder from each of its numbers.
use Rattle.std.proofs.Common.{◌≡◌, ℕ, zero, suc, ◌+◌, ◌<◌, ◌⊎◌, inl, inr, List, [], ◌∷◌, ◌++◌, refl, subst, slice_get, Some, length, arith}
use Rattle.std.specs.Prelude.{Contains}
use Rattle.flat_classes.proofs.Chains.{IsChain, chain_few, chain_first, chain_next}
use Rattle.flat_classes.proofs.KindLaws.{first_or_rest, in_first, in_rest, nothing_in}
use Rattle.net_graph.proofs.ListLaws.{element_there}
use Rattle.net_graph.specs.Graph.{IsAbove, IsInRange, IsPostorder, ReachesItself, Visits, VisitsEach, again, first, next, none}

same_or_other : (a b : ℕ) → (a ≡ b) ⊎ ¬ (a ≡ b)
same_or_other a b = elim (order a b) [ inl lt ↦ inr (λ e. omega (arith, lt, e)) | inr (inl e) ↦ inl e | inr (inr lt) ↦ inr (λ e. omega (arith, lt, e)) ]
  where
    order : (a b : ℕ) → (a < b) ⊎ ((a ≡ b) ⊎ (b < a))
    order a b = grind arith

-- a number stands in a list or does not
is_in : (number : ℕ) (numbers : List ℕ) → Contains numbers number ⊎ ¬ Contains numbers number
is_in number [] = inr (nothing_in number)
is_in number (n ∷ numbers) = elim (same_or_other n number) [
  | inl e ↦ inl (subst (Contains (n ∷ numbers)) e (in_first n numbers))
  | inr other ↦ elim (is_in number numbers) [
    | inl there ↦ inl (in_rest n numbers number there)
    | inr not_there ↦ inr (λ c. elim (first_or_rest n numbers number c) as (λ _. ⊥) [ inl e ↦ other e | inr r ↦ not_there r ])
  ]
]

-- from these numbers there is a walk, where there is one from each of them, whatever was listed before
walk_each : (graph : List (List ℕ)) (numbers : List ℕ) → ((place inner : ℕ) → slice_get numbers place ≡ Some inner → (before : List ℕ) → (after : List ℕ) × Visits graph before inner after) → (before : List ℕ) → (after : List ℕ) × VisitsEach graph before numbers after
walk_each graph [] each before = (before, none)
walk_each graph (number ∷ numbers) each before =
    let (middle, one) = each 0 number refl before in
    let (after, others) = walk_each graph numbers (λ place inner there. each (suc place) inner there) middle in
    (after, next one others)

module _ (graph : List (List ℕ)) (in_range : IsInRange graph) (free : (number : ℕ) → ¬ ReachesItself graph number) where
  -- from a number to which a chain leads there is a walk, where so many more numbers would fill the graph
  walk : (levels : ℕ) (chain : List ℕ) (number : ℕ) → IsChain graph chain number → length graph < levels + length chain → number < length graph → (before : List ℕ) → (after : List ℕ) × Visits graph before number after
  walk zero chain number is more lt before = let few = chain_few is in absurd (omega (arith, few, more))
  walk (suc levels) chain number is more lt before = elim (is_in number before) [
    | inl there ↦ (before, again there)
    | inr fresh ↦
        let (numbers, are_below) = element_there graph number lt in
        let each : (place inner : ℕ) → slice_get numbers place ≡ Some inner → (listed : List ℕ) → (after : List ℕ) × Visits graph listed inner after = λ place inner there listed.
        let above : IsAbove graph number inner = record { numbers = numbers; are_below = are_below; place = place; is_there = there } in
        let less : inner < length graph = in_range number inner above in
        walk levels (inner ∷ chain) inner (chain_next graph chain number inner (free number) above less is) (omega (arith, more)) less listed in
        let (middle, visits) = walk_each graph numbers each before in
        (middle ++ number ∷ [], first fresh are_below visits)
  ]

  pub postorder_there : (start : ℕ) → start < length graph → (order : List ℕ) × IsPostorder graph start order
  postorder_there start lt = walk (length graph) (start ∷ []) start (chain_first graph start lt) (omega arith) lt []
