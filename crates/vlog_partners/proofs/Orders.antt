-- What stands in the order of a design: numbers of cells, each once, each behind those below it.
use Rattle.std.proofs.Common.{◌≡◌, ◌⊎◌, inl, inr, ℕ, ◌<◌, List, [], ◌∷◌, ◌++◌, Some, length, slice_get, sym, subst, ◌∙◌, Contains}
use Rattle.std.proofs.lemmas.List.Elements.{Contains-append_cases}
use Rattle.std.proofs.lemmas.Option.{slice_get_within}
use Rattle.net_graph.specs.Graph.{HasList, IsAbove, IsReached, ReachesItself, Visits, VisitsEach, again, first, none, next}
use Rattle.net_graph.proofs.OrderLaws.{StandsIn, contained, front_or_last}
use Rattle.net_graph.proofs.WalkLaws.{linked_along, linked_by, linked_itself}
use Rattle.vlog_written.proofs.Members.{nothing_there, there_at, there_here, there_later}
use Rattle.vlog_plain.proofs.Uses.{only_one}

-- each number stands once
abbrev pub StandOnce : List ℕ → Type 0
StandOnce order = (place other number : ℕ) → slice_get order place ≡ Some number → slice_get order other ≡ Some number → place ≡ other

one_more : (order : List ℕ) (number : ℕ) → StandOnce order → ¬ Contains order number → StandOnce (order ++ number ∷ [])
one_more order number once fresh place other n e f = elim (front_or_last order number place n e) as (λ _. place ≡ other) [
  | inl g ↦ elim (front_or_last order number other n f) as (λ _. place ≡ other) [
    | inl h ↦ once place other n g h
    | inr h ↦ absurd (fresh (subst (Contains order) (sym h.1) (there_at order place n g)))
  ]
  | inr g ↦ elim (front_or_last order number other n f) as (λ _. place ≡ other) [
    | inl h ↦ absurd (fresh (subst (Contains order) (sym g.1) (there_at order other n h)))
    | inr h ↦ g.0 ∙ sym h.0
  ]
]

module _ (graph : List (List ℕ)) where
  -- the number is in the graph, and reached from the other one
  record IsNew (from number : ℕ) : Type 0 where
    reached : IsReached graph from number
    within : number < length graph

  -- a number below another one
  above_in : (outer inner : ℕ) (numbers : List ℕ) → HasList graph outer numbers → Contains numbers inner → IsAbove graph outer inner
  above_in outer inner numbers e h = let s : StandsIn numbers inner = contained numbers inner h in record { numbers = numbers; are_below = e; place = s.place; is_there = s.is_there }

  mutual
    new_in_visit : {before after : List ℕ} {number : ℕ} → Visits graph before number after → (x : ℕ) → Contains after x → Contains before x ⊎ IsNew number x
    new_in_visit (again h) x m = inl m
    new_in_visit (first {before = before} {middle = middle} {number = number} {numbers = numbers} fresh list each) x m =
        elim (Contains-append_cases middle (number ∷ []) x m) as (λ _. Contains before x ⊎ IsNew number x) [
          | inl k ↦ elim (new_in_each each x k) as (λ _. Contains before x ⊎ IsNew number x) [
            | inl old ↦ inl old
            | inr r ↦ inr (record { reached = linked_along (linked_by (above_in number r.0 numbers list r.1)) r.2.reached; within = r.2.within })
          ]
          | inr k ↦ inr (subst (IsNew number) (only_one number x k) (record { reached = linked_itself (IsAbove graph) number; within = slice_get_within graph number numbers list }))
        ]

    new_in_each : {before after : List ℕ} {numbers : List ℕ} → VisitsEach graph before numbers after → (x : ℕ) → Contains after x → Contains before x ⊎ ((n : ℕ) × Contains numbers n × IsNew n x)
    new_in_each none x m = inl m
    new_in_each (next {before = before} {middle = middle} {number = number} {rest = rest} one more) x m =
        elim (new_in_each more x m) as (λ _. Contains before x ⊎ ((n : ℕ) × Contains (number ∷ rest) n × IsNew n x)) [
          | inl k ↦ elim (new_in_visit one x k) as (λ _. Contains before x ⊎ ((n : ℕ) × Contains (number ∷ rest) n × IsNew n x)) [
            | inl old ↦ inl old
            | inr new ↦ inr (number, there_here number rest, new)
          ]
          | inr r ↦ inr (r.0, there_later number rest r.0 r.1, r.2)
        ]

  module _ (free : (number : ℕ) → ¬ ReachesItself graph number) where
    mutual
      once_in_visit : {before after : List ℕ} {number : ℕ} → Visits graph before number after → StandOnce before → StandOnce after
      once_in_visit (again h) once = once
      once_in_visit (first {before = before} {middle = middle} {number = number} {numbers = numbers} fresh list each) once =
          one_more middle number (once_in_each each once) (λ m. elim (new_in_each each number m) as (λ _. ⊥) [
            | inl old ↦ fresh old
            | inr r ↦ free number (record { below = r.0; first = above_in number r.0 numbers list r.1; back = r.2.reached })
          ])

      once_in_each : {before after : List ℕ} {numbers : List ℕ} → VisitsEach graph before numbers after → StandOnce before → StandOnce after
      once_in_each none once = once
      once_in_each (next one more) once = once_in_each more (once_in_visit one once)

    -- each number stands once in a postorder
    pub order_once : (top : ℕ) (order : List ℕ) → Visits graph [] top order → StandOnce order
    order_once top order visits = once_in_visit visits (λ place other number e f. absurd (cc))

  -- each is a number of the graph
  pub order_within : (top : ℕ) (order : List ℕ) → Visits graph [] top order → (place number : ℕ) → slice_get order place ≡ Some number → number < length graph
  order_within top order visits place number e = elim (new_in_visit visits number (there_at order place number e)) as (λ _. number < length graph) [
    | inl h ↦ absurd (nothing_there number h)
    | inr new ↦ new.within
  ]
