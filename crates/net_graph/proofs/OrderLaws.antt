use Rattle.std.proofs.Common.{◌≡◌, ℕ, zero, suc, ◌<◌, ◌≤◌, ◌⊎◌, inl, inr, List, [], ◌∷◌, ◌++◌, refl, sym, ◌∙◌, ap, subst, subst₂, slice_get, Some, length, arith, append_assoc}
use Rattle.std.specs.Prelude.{Contains}
use Rattle.std.proofs.lemmas.Option.{slice_get_within, slice_get_read}
use Rattle.net_graph.specs.Graph.{HasList, IsAbove, IsReached, ReachesItself, Visits, VisitsEach, again, first, none, next}
use Rattle.net_graph.specs.Walks.{Leads}
use Rattle.net_graph.proofs.ListLaws.{same_element}

-- the element stands somewhere in the list
pub record StandsIn {A : Type 0} (xs : List A) (x : A) : Type 0 where
  pub place : ℕ
  pub is_there : slice_get xs place ≡ Some x

nothing_more : {A : Type 0} (xs : List A) → xs ++ [] ≡ xs
nothing_more [] = refl
nothing_more (x ∷ xs) = ap (λ w. x ∷ w) (nothing_more xs)

pub get_front : {A : Type 0} (xs ys : List A) (i : ℕ) (x : A) → slice_get xs i ≡ Some x → slice_get (xs ++ ys) i ≡ Some x
get_front [] ys i x e = absurd (cc)
get_front (z ∷ xs) ys zero x e = e
get_front (z ∷ xs) ys (suc i) x e = get_front xs ys i x e

pub get_last : {A : Type 0} (xs : List A) (n : A) → slice_get (xs ++ n ∷ []) (length xs) ≡ Some n
get_last [] n = refl
get_last (z ∷ xs) n = get_last xs n

pub front_or_last : {A : Type 0} (xs : List A) (n : A) (i : ℕ) (x : A) → slice_get (xs ++ n ∷ []) i ≡ Some x → (slice_get xs i ≡ Some x) ⊎ ((i ≡ length xs) × (n ≡ x))
front_or_last [] n zero x e = inr (refl, cc)
front_or_last [] n (suc i) x e = absurd (cc)
front_or_last (z ∷ xs) n zero x e = inl e
front_or_last (z ∷ xs) n (suc i) x e = elim (front_or_last xs n i x e) [ inl f ↦ inl f | inr f ↦ inr (ap suc f.0, f.1) ]

pub contained : {A : Type 0} (xs : List A) (x : A) → Contains xs x → StandsIn xs x
contained xs x h = record { place = h.0; is_there = slice_get_read xs (length xs) h.0 x refl h.1 (sym h.2) }

stands_more : {A : Type 0} (xs ys : List A) (x : A) → StandsIn xs x → StandsIn (xs ++ ys) x
stands_more xs ys x h = record { place = h.place; is_there = get_front xs ys h.place x h.is_there }

-- each number of the order stands after those below it
abbrev pub HasBelow : List (List ℕ) → List ℕ → Type 0
HasBelow graph order = (place number : ℕ) (list : List ℕ) (at : ℕ) (instance : ℕ) → slice_get order place ≡ Some number → HasList graph number list → slice_get list at ≡ Some instance →
    (before : ℕ) × (before < place) × (slice_get order before ≡ Some instance)

module _ (graph : List (List ℕ)) (top : ℕ) where
  mutual
    pub visits_more : {before after : List ℕ} {number : ℕ} → Visits graph before number after → (tail : List ℕ) × (after ≡ before ++ tail)
    visits_more (again {before = before} h) = ([], sym (nothing_more before))
    visits_more (first {before = before} {middle = middle} {number = number} fresh is_list each) =
        let (tail, e) = visits_each_more each in
        (tail ++ number ∷ [], ap (λ w. w ++ number ∷ []) e ∙ append_assoc before tail (number ∷ []))

    pub visits_each_more : {before after : List ℕ} {numbers : List ℕ} → VisitsEach graph before numbers after → (tail : List ℕ) × (after ≡ before ++ tail)
    visits_each_more (none {before = before}) = ([], sym (nothing_more before))
    visits_each_more (next {before = before} {middle = middle} {after = after} one rest) =
        let (here, e) = visits_more one in
        let (more, f) = visits_each_more rest in
        (here ++ more, f ∙ (ap (λ w. w ++ more) e ∙ append_assoc before here more))

  pub visits_lists : {before after : List ℕ} {number : ℕ} → Visits graph before number after → StandsIn after number
  visits_lists (again {before = before} {number = number} h) = contained before number h
  visits_lists (first {before = before} {middle = middle} {number = number} fresh is_list each) = record { place = length middle; is_there = get_last middle number }

  pub visits_each_lists : {before after : List ℕ} {numbers : List ℕ} → VisitsEach graph before numbers after → (i number : ℕ) → slice_get numbers i ≡ Some number → StandsIn after number
  visits_each_lists none i number e = absurd (cc)
  visits_each_lists (next {middle = middle} {after = after} {number = head} one rest) zero number e =
      let same : head ≡ number = cc in
      let (more, f) = visits_each_more rest in
      subst₂ StandsIn (sym f) same (stands_more middle more head (visits_lists one))
  visits_each_lists (next one rest) (suc i) number e = visits_each_lists rest i number e

  more_below : (middle : List ℕ) (number : ℕ) (list : List ℕ) → HasList graph number list → HasBelow graph middle →
      ((at : ℕ) (instance : ℕ) → slice_get list at ≡ Some instance → StandsIn middle instance) → HasBelow graph (middle ++ number ∷ [])
  more_below middle number list is_list below each place listed lcell at instance e is_lcell there = elim (front_or_last middle number place listed e) [
    | inl f ↦
        let (before, lt, g) = below place listed lcell at instance f is_lcell there in
        (before, lt, get_front middle (number ∷ []) before instance g)
    | inr f ↦
        let same : lcell ≡ list = same_element graph number lcell list (subst (λ m. HasList graph m lcell) (sym f.1) is_lcell) is_list in
        let s : StandsIn middle instance = each at instance (subst (λ c. slice_get c at ≡ Some instance) same there) in
        let lt : s.place < length middle = slice_get_within middle s.place instance s.is_there in
        (s.place, subst (λ m. s.place < m) (sym f.0) lt, get_front middle (number ∷ []) s.place instance s.is_there)
  ]

  mutual
    pub visits_below : {before after : List ℕ} {number : ℕ} → Visits graph before number after → HasBelow graph before → HasBelow graph after
    visits_below (again h) below = below
    visits_below (first {middle = middle} {number = number} {numbers = list} fresh is_list each) below = more_below middle number list is_list (visits_each_below each below)
        (λ at instance e. visits_each_lists each at instance e)

    pub visits_each_below : {before after : List ℕ} {numbers : List ℕ} → VisitsEach graph before numbers after → HasBelow graph before → HasBelow graph after
    visits_each_below none below = below
    visits_each_below (next one rest) below = visits_each_below rest (visits_below one below)

  -- what stands below a listed number is listed before it
  below_listed : (order : List ℕ) → HasBelow graph order → (outer inner place : ℕ) → IsAbove graph outer inner → slice_get order place ≡ Some outer → (before : ℕ) × (before < place) × (slice_get order before ≡ Some inner)
  below_listed order below outer inner place above e = below place outer above.numbers above.place inner e above.are_below above.is_there

  descends : (order : List ℕ) → HasBelow graph order → (a : ℕ) (places : List ℕ) (b : ℕ) → Leads (IsAbove graph) a places b → (place : ℕ) → slice_get order place ≡ Some a → (lower : ℕ) × (lower ≤ place) × (slice_get order lower ≡ Some b)
  descends order below a [] b lead place e = (place, omega arith, subst (λ m. slice_get order place ≡ Some m) lead e)
  descends order below a (middle ∷ places) b lead place e =
      let (before, lt, f) = below_listed order below a middle place lead.0 e in
      let (lower, le, g) = descends order below middle places b lead.1 before f in
      (lower, omega arith, g)

  -- what is reached from a listed number is listed
  pub reached_listed : (order : List ℕ) → HasBelow graph order → StandsIn order top → (number : ℕ) → IsReached graph top number → StandsIn order number
  reached_listed order below listed number reached =
      let (lower, le, e) = descends order below top reached.places number reached.lead listed.place listed.is_there in
      record { place = lower; is_there = e }

  -- a listed number does not reach itself
  pub listed_once : (order : List ℕ) → HasBelow graph order → (bound place number : ℕ) → place < bound → slice_get order place ≡ Some number → ¬ ReachesItself graph number
  listed_once order below zero place number lt e reaches = omega arith
  listed_once order below (suc bound) place number lt e reaches =
      let (before, blt, f) = below_listed order below number reaches.below place reaches.first e in
      let (lower, le, g) = descends order below reaches.below reaches.back.places number reaches.back.lead before f in
      listed_once order below bound lower number (omega arith) g reaches

  none_below : HasBelow graph []
  none_below place number list at instance e is_list there = absurd (cc)

  -- no number of a postorder's walk reaches itself
  pub postorder_free : (order : List ℕ) → Visits graph [] top order → (number : ℕ) → IsReached graph top number → ¬ ReachesItself graph number
  postorder_free order visits number reached =
      let below : HasBelow graph order = visits_below visits none_below in
      let s : StandsIn order number = reached_listed order below (visits_lists visits) number reached in
      listed_once order below (suc s.place) s.place number (omega arith) s.is_there
