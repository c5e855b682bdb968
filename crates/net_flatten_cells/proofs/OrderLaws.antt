-- the order of a design has the number of each cell, once
use Rattle.std.proofs.Common.{◌≡◌, ◌⊎◌, ◌||◌, inl, inr, ℕ, suc, ◌<◌, ◌≤◌, Bool, true, false, List, [], ◌∷◌, ◌++◌, Some, eqb, get_or, length, slice_get, refl, sym, ap, ◌∙◌, subst, arith}
use Rattle.std.specs.Prelude.{Contains}
use Rattle.std.specs.List.{list_any}
use Rattle.std.proofs.lemmas.Bool.{eqb-true}
use Rattle.std.proofs.lemmas.List.Elements.{Contains-append_cases}
use Rattle.std.proofs.lemmas.Map.Keys.{IsDistinct-from_apart}
use Rattle.std.proofs.lemmas.Map.Steps.{length-le_from_distinct_below}
use Rattle.std.proofs.lemmas.Option.{slice_get-get_or}
use Rattle.flat_classes.proofs.KindLaws.{first_or_rest, in_first, in_rest, nothing_in}
use Rattle.flat_numbers.proofs.Counting.{good_order}
use Rattle.flat_numbers.proofs.Linking.{contains_there}
use Rattle.flat_numbers.specs.declared.spots.Spot.{Spot}
use Rattle.net_flatten_rules.specs.FlatDesign.{leaf_cells, stands_at}
use Rattle.net_graph.specs.Graph.{HasList, IsAbove, IsReached, ReachesItself, Visits, VisitsEach, again, first, none, next}
use Rattle.net_graph.proofs.OrderLaws.{StandsIn, contained, front_or_last, reached_listed}
use Rattle.net_graph.proofs.WalkLaws.{linked_along, linked_by, linked_itself}
use Rattle.net_hier.specs.Design.{Design, cells_below}
use Rattle.net_hier.specs.Valid.{IsValid}
use Rattle.net_flatten_cells.proofs.SizeLaws.{filtered_few}

-- each number stands once
abbrev pub StandOnce : List ℕ → Type 0
StandOnce order = (place other number : ℕ) → slice_get order place ≡ Some number → slice_get order other ≡ Some number → place ≡ other

one_more : (order : List ℕ) (number : ℕ) → StandOnce order → ¬ Contains order number → StandOnce (order ++ number ∷ [])
one_more order number once fresh place other n e f = elim (front_or_last order number place n e) as (λ _. place ≡ other) [
  | inl g ↦ elim (front_or_last order number other n f) as (λ _. place ≡ other) [
    | inl h ↦ once place other n g h
    | inr h ↦ absurd (fresh (subst (Contains order) (sym h.1) (contains_there order place n g)))
  ]
  | inr g ↦ elim (front_or_last order number other n f) as (λ _. place ≡ other) [
    | inl h ↦ absurd (fresh (subst (Contains order) (sym g.1) (contains_there order other n h)))
    | inr h ↦ g.0 ∙ sym h.0
  ]
]

module _ (graph : List (List ℕ)) where
  above_in : (outer inner : ℕ) (numbers : List ℕ) → HasList graph outer numbers → Contains numbers inner → IsAbove graph outer inner
  above_in outer inner numbers e h = let s : StandsIn numbers inner = contained numbers inner h in record { numbers = numbers; are_below = e; place = s.place; is_there = s.is_there }

  mutual
    -- what a visit lists is reached from its number
    new_in_visit : {before after : List ℕ} {number : ℕ} → Visits graph before number after → (x : ℕ) → Contains after x → Contains before x ⊎ IsReached graph number x
    new_in_visit (again h) x m = inl m
    new_in_visit (first {before = before} {middle = middle} {number = number} {numbers = numbers} fresh list each) x m =
        elim (Contains-append_cases middle (number ∷ []) x m) as (λ _. Contains before x ⊎ IsReached graph number x) [
          | inl k ↦ elim (new_in_each each x k) as (λ _. Contains before x ⊎ IsReached graph number x) [
            | inl old ↦ inl old
            | inr r ↦ inr (linked_along (linked_by (above_in number r.0 numbers list r.1)) r.2)
          ]
          | inr k ↦ elim (first_or_rest number [] x k) as (λ _. Contains before x ⊎ IsReached graph number x) [
            | inl same ↦ inr (subst (IsReached graph number) same (linked_itself (IsAbove graph) number))
            | inr l ↦ absurd (nothing_in x l)
          ]
        ]

    new_in_each : {before after : List ℕ} {numbers : List ℕ} → VisitsEach graph before numbers after → (x : ℕ) → Contains after x → Contains before x ⊎ ((n : ℕ) × Contains numbers n × IsReached graph n x)
    new_in_each none x m = inl m
    new_in_each (next {before = before} {middle = middle} {number = number} {rest = rest} one more) x m =
        elim (new_in_each more x m) as (λ _. Contains before x ⊎ ((n : ℕ) × Contains (number ∷ rest) n × IsReached graph n x)) [
          | inl k ↦ elim (new_in_visit one x k) as (λ _. Contains before x ⊎ ((n : ℕ) × Contains (number ∷ rest) n × IsReached graph n x)) [
            | inl old ↦ inl old
            | inr new ↦ inr (number, in_first number rest, new)
          ]
          | inr r ↦ inr (r.0, in_rest number rest r.0 r.1, r.2)
        ]

  module _ (free : (number : ℕ) → ¬ ReachesItself graph number) where
    mutual
      once_in_visit : {before after : List ℕ} {number : ℕ} → Visits graph before number after → StandOnce before → StandOnce after
      once_in_visit (again h) once = once
      once_in_visit (first {before = before} {middle = middle} {number = number} {numbers = numbers} fresh list each) once =
          one_more middle number (once_in_each each once) (λ m. elim (new_in_each each number m) as (λ _. ⊥) [
            | inl old ↦ fresh old
            | inr r ↦ free number (record { below = r.0; first = above_in number r.0 numbers list r.1; back = r.2 })
          ])

      once_in_each : {before after : List ℕ} {numbers : List ℕ} → VisitsEach graph before numbers after → StandOnce before → StandOnce after
      once_in_each none once = once
      once_in_each (next one more) once = once_in_each more (once_in_visit one once)

-- ---- the order of a design

-- each number stands once
pub order_once : (design : Design) → IsValid design → StandOnce design.order
order_once design valid = once_in_visit (cells_below design.cells) valid.no_recursion valid.postorder (λ place other number e f. absurd cc)

-- the number of each cell stands there
pub order_all : (design : Design) → IsValid design → (number : ℕ) → number < length design.cells → StandsIn design.order number
order_all design valid number lt =
    let good = good_order design valid in
    reached_listed (cells_below design.cells) design.top design.order good.below good.has_top number (valid.reached number lt)

-- numbers below a bound that each stand once are no more than the bound
differ : (order : List ℕ) → StandOnce order → (i j d : ℕ) → i < j → j < length order → eqb (get_or order i d) (get_or order j d) ≡ false
differ order once i j d lt within = by (eqb (get_or order i d) (get_or order j d)) refl
  where
    by : (b : Bool) → eqb (get_or order i d) (get_or order j d) ≡ b → b ≡ false
    by false e = refl
    by true e =
        let same : get_or order i d ≡ get_or order j d = eqb-true (get_or order i d) (get_or order j d) e in
        let here : slice_get order i ≡ Some (get_or order i d) = slice_get-get_or order i d (omega (arith, lt, within)) in
        let there : slice_get order j ≡ Some (get_or order i d) = slice_get-get_or order j d within ∙ ap Some (sym same) in
        let both : i ≡ j = once i j (get_or order i d) here there in
        absurd (omega (arith, lt, both))

any_stands : (order : List ℕ) (q : ℕ) → list_any (eqb q) order ≡ true → (place : ℕ) × (slice_get order place ≡ Some q)
any_stands [] q h = absurd cc
any_stands (n ∷ order) q h = by (eqb q n) refl h (λ t. any_stands order q t)
  where
    by : (b : Bool) → eqb q n ≡ b → (b || list_any (eqb q) order) ≡ true → (list_any (eqb q) order ≡ true → (place : ℕ) × (slice_get order place ≡ Some q)) → (place : ℕ) × (slice_get (n ∷ order) place ≡ Some q)
    by true e t rest = (0, ap Some (sym (eqb-true q n e)))
    by false e t rest = let found = rest t in (suc found.0, found.1)

pub order_few : (design : Design) → IsValid design → length design.order ≤ length design.cells
order_few design valid = length-le_from_distinct_below design.order (length design.cells)
    (IsDistinct-from_apart eqb design.order (λ i j d lt within. differ design.order (order_once design valid) i j d lt within))
    (λ q h. let at = any_stands design.order q h in (good_order design valid).in_range at.0 q at.1)

-- ---- the numbers of the cells at the leaves

module _ (design : Design) (valid : IsValid design) (spots : List Spot) (leaves : List ℕ) where
  pub numbers_few : length (leaf_cells design.order spots leaves) ≤ length design.cells
  numbers_few = let f = filtered_few (stands_at spots leaves) design.order in let o = order_few design valid in omega (arith, f, o)
