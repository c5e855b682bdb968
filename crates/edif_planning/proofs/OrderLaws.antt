-- What stands in the order of a design: the number of each cell, once.
use Rattle.std.proofs.Common.{arith, ◌≡◌, ◌⊎◌, ◌||◌, inl, inr, ℕ, zero, suc, ◌+◌, ◌^◌, ◌<◌, ◌≤◌, Bool, true, false, List, [], ◌∷◌, ◌++◌, Some, eqb, get_or, length, slice_get, refl, sym, ap, ◌∙◌, subst, Contains}
use Rattle.std.specs.List.{list_any}
use Rattle.std.proofs.lemmas.Bool.{eqb-true}
use Rattle.std.proofs.lemmas.List.{length-map}
use Rattle.std.proofs.lemmas.List.Elements.{Contains-append_cases}
use Rattle.std.proofs.lemmas.Map.Keys.{IsDistinct-from_apart}
use Rattle.std.proofs.lemmas.Map.Steps.{length-le_from_distinct_below}
use Rattle.std.proofs.lemmas.Option.{slice_get-get_or, slice_get_within}
use Rattle.net_graph.specs.Graph.{HasList, IsAbove, IsReached, ReachesItself, Visits, VisitsEach, again, first, none, next}
use Rattle.net_graph.proofs.OrderLaws.{HasBelow, StandsIn, contained, front_or_last, reached_listed, visits_below, visits_lists}
use Rattle.net_graph.proofs.WalkLaws.{linked_along, linked_by, linked_itself}
use Rattle.net_hier.specs.Design.{Design, below_of, cells_below}
use Rattle.net_hier.specs.Valid.{IsHier, IsValid}

-- ---- elements of lists

stands_there : {A : Type 0} (xs : List A) (i : ℕ) (x : A) → slice_get xs i ≡ Some x → Contains xs x
stands_there [] i x e = absurd cc
stands_there (y ∷ ys) zero x e = let same : y ≡ x = cc in (0, omega arith, same)
stands_there (y ∷ ys) (suc i) x e = let rest = stands_there ys i x e in let lt = rest.1 in (suc rest.0, omega (arith, lt), rest.2)

stands_here : {A : Type 0} (x : A) (xs : List A) → Contains (x ∷ xs) x
stands_here x xs = (0, omega arith, refl)

stands_later : {A : Type 0} (x : A) (xs : List A) (y : A) → Contains xs y → Contains (x ∷ xs) y
stands_later x xs y h = let lt = h.1 in (suc h.0, omega (arith, lt), h.2)

alone : {A : Type 0} (x y : A) → Contains (x ∷ []) y → x ≡ y
alone {A} x y h = by h.0 h.1 h.2
  where
    by : (k : ℕ) → k < length (x ∷ []) → get_or (x ∷ []) k y ≡ y → x ≡ y
    by zero lt e = e
    by (suc k) lt e = absurd (omega (arith, lt))

-- ---- the walk

-- each number stands once
abbrev pub StandOnce : List ℕ → Type 0
StandOnce order = (place other number : ℕ) → slice_get order place ≡ Some number → slice_get order other ≡ Some number → place ≡ other

one_more : (order : List ℕ) (number : ℕ) → StandOnce order → ¬ Contains order number → StandOnce (order ++ number ∷ [])
one_more order number once fresh place other n e f = elim (front_or_last order number place n e) as (λ _. place ≡ other) [
  | inl g ↦ elim (front_or_last order number other n f) as (λ _. place ≡ other) [
    | inl h ↦ once place other n g h
    | inr h ↦ absurd (fresh (subst (Contains order) (sym h.1) (stands_there order place n g)))
  ]
  | inr g ↦ elim (front_or_last order number other n f) as (λ _. place ≡ other) [
    | inl h ↦ absurd (fresh (subst (Contains order) (sym g.1) (stands_there order other n h)))
    | inr h ↦ g.0 ∙ sym h.0
  ]
]

module _ (graph : List (List ℕ)) where
  -- the number is in the graph, and reached from the other one
  record IsNew (from number : ℕ) : Type 0 where
    reached : IsReached graph from number
    within : number < length graph

  above_in : (outer inner : ℕ) (numbers : List ℕ) → HasList graph outer numbers → Contains numbers inner → IsAbove graph outer inner
  above_in outer inner numbers e h = let s : StandsIn numbers inner = contained numbers inner h in record { numbers = numbers; are_below = e; place = s.place; is_there = s.is_there }

  mutual
    new_in_visit : {before after : List ℕ} {number : ℕ} → Visits graph before number after → (x : ℕ) → Contains after x → Contains before x ⊎ IsNew number x
    new_in_visit (again h) x m = inl m
    new_in_visit (first {before = before} {middle = middle} {number = number} {numbers = numbers} fresh list each) x m =
        elim (Contains-append_cases middle (number ∷ []) x m) as (λ _. Contains before x ⊎ IsNew number x) [
          | inl k ↦ elim (new_in_each each x k) as (λ _. Contains before x ⊎ IsNew number x) [
            | inl old ↦ inl old
            | inr r ↦ inr (record { reached = linked_along (linked_by (above_in number r.0 numbers list r.1)) r.2.reached; within = r.2.within })
          ]
          | inr k ↦ inr (subst (IsNew number) (alone number x k) (record { reached = linked_itself (IsAbove graph) number; within = slice_get_within graph number numbers list }))
        ]

    new_in_each : {before after : List ℕ} {numbers : List ℕ} → VisitsEach graph before numbers after → (x : ℕ) → Contains after x → Contains before x ⊎ ((n : ℕ) × Contains numbers n × IsNew n x)
    new_in_each none x m = inl m
    new_in_each (next {before = before} {middle = middle} {number = number} {rest = rest} one more) x m =
        elim (new_in_each more x m) as (λ _. Contains before x ⊎ ((n : ℕ) × Contains (number ∷ rest) n × IsNew n x)) [
          | inl k ↦ elim (new_in_visit one x k) as (λ _. Contains before x ⊎ ((n : ℕ) × Contains (number ∷ rest) n × IsNew n x)) [
            | inl old ↦ inl old
            | inr new ↦ inr (number, stands_here number rest, new)
          ]
          | inr r ↦ inr (r.0, stands_later number rest r.0 r.1, r.2)
        ]

  module _ (free : (number : ℕ) → ¬ ReachesItself graph number) where
    mutual
      once_in_visit : {before after : List ℕ} {number : ℕ} → Visits graph before number after → StandOnce before → StandOnce after
      once_in_visit (again h) once = once
      once_in_visit (first {before = before} {middle = middle} {number = number} {numbers = numbers} fresh list each) once =
          one_more middle number (once_in_each each once) (λ m. elim (new_in_each each number m) as (λ _. ⊥) [
            | inl old ↦ fresh old
            | inr r ↦ free number (record { below = r.0; first = above_in number r.0 numbers list r.1; back = r.2.reached })
          ])

      once_in_each : {before after : List ℕ} {numbers : List ℕ} → VisitsEach graph before numbers after → StandOnce before → StandOnce after
      once_in_each none once = once
      once_in_each (next one more) once = once_in_each more (once_in_visit one once)

-- ---- the order of a design

nothing_listed : {A : Type 0} (place : ℕ) (x : A) → slice_get [] place ≡ Some x → ⊥
nothing_listed place x e = absurd cc

-- each number stands once
pub order_once : (design : Design) → IsValid design → StandOnce design.order
order_once design valid = once_in_visit (cells_below design.cells) valid.no_recursion valid.postorder (λ place other number e f. absurd (nothing_listed place number e))

-- each is that of a cell
pub order_within : (design : Design) → IsValid design → (place number : ℕ) → slice_get design.order place ≡ Some number → number < length design.cells
order_within design valid place number e = elim (new_in_visit (cells_below design.cells) valid.postorder number (stands_there design.order place number e)) as (λ _. number < length design.cells) [
  | inl h ↦ absurd (let lt = h.1 in omega (arith, lt))
  | inr new ↦ subst (λ n. number < n) (length-map design.cells below_of) new.within
]

-- the number of each cell stands there
pub order_all : (design : Design) → IsValid design → (number : ℕ) → number < length design.cells → StandsIn design.order number
order_all design valid number lt =
    let graph : List (List ℕ) = cells_below design.cells in
    let below : HasBelow graph design.order = visits_below graph design.top valid.postorder (λ place n list at instance e is there. absurd (nothing_listed place n e)) in
    reached_listed graph design.top design.order below (visits_lists graph design.top valid.postorder) number (valid.reached number lt)

-- ---- there are at most as many numbers as cells

differ : (order : List ℕ) → StandOnce order → (i j d : ℕ) → i < j → j < length order → eqb (get_or order i d) (get_or order j d) ≡ false
differ order once i j d lt within = by (eqb (get_or order i d) (get_or order j d)) refl
  where
    by : (b : Bool) → eqb (get_or order i d) (get_or order j d) ≡ b → b ≡ false
    by false e = refl
    by true e =
        let same : get_or order i d ≡ get_or order j d = eqb-true (get_or order i d) (get_or order j d) e in
        let here : slice_get order i ≡ Some (get_or order i d) = slice_get-get_or order i d (omega (arith, lt, within)) in
        let there : slice_get order j ≡ Some (get_or order i d) = slice_get-get_or order j d within ∙ ap Some (sym same) in
        let both : i ≡ j = once i j (get_or order i d) here there in
        absurd (omega (arith, lt, both))

any_stands : (order : List ℕ) (q : ℕ) → list_any (eqb q) order ≡ true → (place : ℕ) × (slice_get order place ≡ Some q)
any_stands [] q h = absurd cc
any_stands (n ∷ order) q h = by (eqb q n) refl h (λ t. any_stands order q t)
  where
    by : (b : Bool) → eqb q n ≡ b → (b || list_any (eqb q) order) ≡ true → (list_any (eqb q) order ≡ true → (place : ℕ) × (slice_get order place ≡ Some q)) → (place : ℕ) × (slice_get (n ∷ order) place ≡ Some q)
    by true e t rest = (0, ap Some (sym (eqb-true q n e)))
    by false e t rest = let found = rest t in (suc found.0, found.1)

pub order_few : (design : Design) → IsValid design → length design.order ≤ length design.cells
order_few design valid = length-le_from_distinct_below design.order (length design.cells)
    (IsDistinct-from_apart eqb design.order (λ i j d lt within. differ design.order (order_once design valid) i j d lt within))
    (λ q h. let at = any_stands design.order q h in order_within design valid at.0 q at.1)

-- so a place in it, behind at most two new cells, is a number of a cell
pub place_fits : (design : Design) → IsHier design → (order : List ℕ) → order ≡ design.order → (count place : ℕ) → count ≤ 2 → place < length order → count + place < 2 ^ 32
place_fits design hier order e count place two lt =
    let few : length design.order ≤ length design.cells = order_few design hier.valid in
    let cells : length design.cells ≤ 268435456 = hier.few_parts.few_cells in
    let same : length order ≡ length design.order = ap length e in
    omega (arith, two, lt, few, cells, same)

-- the number that stands at a place of it
pub order_there : (design : Design) (order : List ℕ) → order ≡ design.order → (place d : ℕ) → place < length order → slice_get design.order place ≡ Some (get_or order place d)
order_there design order e place d lt = ap (λ l. slice_get l place) (sym e) ∙ slice_get-get_or order place d lt
