-- The live classes below a number, up to the number of all classes, are the live classes.
use Rattle.std.proofs.Common.{arith, ◌≡◌, ℕ, zero, suc, ◌<◌, ◌⊎◌, inl, inr, Bool, true, false, cond, List, [], ◌∷◌, ◌++◌, Some, append-nil, length, refl, sym, ap, ◌∙◌, subst}
use Rattle.std.specs.Prelude.{Contains, slice_get}
use Rattle.std.proofs.lemmas.Bool.{false≢true}
use Rattle.std.proofs.lemmas.List.Elements.{Contains-append_cases}
use Rattle.net_bits.specs.Classes.{ClassTable, members_of}
use Rattle.net_hier.specs.declared.cells.HNet.{HNet}
use Rattle.net_stars.proofs.Lists.{contains_cases}
use Rattle.net_live.specs.Live.{AreLiveClasses, is_live}
use Rattle.net_live.proofs.LiveLaws.{element_at}
use Rattle.edif_plans.specs.Made.{live_below}

get_left : {A : Type 0} (xs ys : List A) (i : ℕ) (x : A) → slice_get xs i ≡ Some x → slice_get (xs ++ ys) i ≡ Some x
get_left [] ys i x there = absurd cc
get_left (y ∷ xs) ys zero x there = there
get_left (y ∷ xs) ys (suc i) x there = get_left xs ys i x there

get_last : {A : Type 0} (xs : List A) (x : A) → slice_get (xs ++ x ∷ []) (length xs) ≡ Some x
get_last [] x = refl
get_last (y ∷ xs) x = get_last xs x

get_cases : {A : Type 0} (xs : List A) (y : A) (i : ℕ) (x : A) → slice_get (xs ++ y ∷ []) i ≡ Some x → (slice_get xs i ≡ Some x) ⊎ ((i ≡ length xs) × (y ≡ x))
get_cases [] y zero x there = inr (refl, cc)
get_cases [] y (suc i) x there = absurd cc
get_cases (z ∷ xs) y zero x there = inl there
get_cases (z ∷ xs) y (suc i) x there = elim (get_cases xs y i x there) as (λ _. (slice_get xs i ≡ Some x) ⊎ ((suc i ≡ suc (length xs)) × (y ≡ x))) [
  | inl h ↦ inl h
  | inr h ↦ inr (ap suc h.0, h.1)
]

below_cases : (class n : ℕ) → class < suc n → (class < n) ⊎ (class ≡ n)
below_cases zero zero h = inr refl
below_cases zero (suc n) h = inl (omega arith)
below_cases (suc class) zero h = absurd (omega (arith, h))
below_cases (suc class) (suc n) h = elim (below_cases class n (omega (arith, h))) as (λ _. (suc class < suc n) ⊎ (suc class ≡ suc n)) [ inl l ↦ inl (omega (arith, l)) | inr s ↦ inr (ap suc s) ]

module _ (nets : List HNet) (classes : ClassTable) where
  abbrev test : ℕ → Bool
  test n = is_live nets (members_of classes n)

  last_is : (n class : ℕ) (b : Bool) → test n ≡ b → Contains (cond b (n ∷ []) []) class → (class < suc n) × (test class ≡ true)
  last_is n class true e m = elim (contains_cases n class [] m) as (λ _. (class < suc n) × (test class ≡ true)) [
    | inl s ↦ (omega (arith, s), ap test (sym s) ∙ e)
    | inr o ↦ absurd (let l = o.1 in omega (arith, l))
  ]
  last_is n class false e m = absurd (let l = m.1 in omega (arith, l))

  pub live_is : (n class : ℕ) → Contains (live_below nets classes n) class → (class < n) × (test class ≡ true)
  unfolding live_below
  live_is zero class h = absurd (let l = h.1 in omega (arith, l))
  live_is (suc n) class h = elim (Contains-append_cases (live_below nets classes n) (cond (test n) (n ∷ []) []) class h) as (λ _. (class < suc n) × (test class ≡ true)) [
    | inl m ↦ let r = live_is n class m in (let l = r.0 in omega (arith, l), r.1)
    | inr m ↦ last_is n class (test n) refl m
  ]

  pub live_each : (n place class : ℕ) → slice_get (live_below nets classes n) place ≡ Some class → (class < n) × (test class ≡ true)
  live_each n place class there = live_is n class (element_at (live_below nets classes n) place class there)

  two_places : (n : ℕ) (b : Bool) (i j class : ℕ) → ((i j : ℕ) → slice_get (live_below nets classes n) i ≡ Some class → slice_get (live_below nets classes n) j ≡ Some class → i ≡ j)
      → slice_get (live_below nets classes n ++ cond b (n ∷ []) []) i ≡ Some class → slice_get (live_below nets classes n ++ cond b (n ∷ []) []) j ≡ Some class → i ≡ j
  two_places n false i j class before hi hj =
      before i j (subst (λ l. slice_get l i ≡ Some class) (append-nil (live_below nets classes n)) hi) (subst (λ l. slice_get l j ≡ Some class) (append-nil (live_below nets classes n)) hj)
  two_places n true i j class before hi hj = elim (get_cases (live_below nets classes n) n i class hi) as (λ _. i ≡ j) [
    | inl a ↦ elim (get_cases (live_below nets classes n) n j class hj) as (λ _. i ≡ j) [
      | inl b ↦ before i j a b
      | inr b ↦ absurd (let l = (live_each n i class a).0 in let e = b.1 in omega (arith, l, e))
    ]
    | inr a ↦ elim (get_cases (live_below nets classes n) n j class hj) as (λ _. i ≡ j) [
      | inl b ↦ absurd (let l = (live_each n j class b).0 in let e = a.1 in omega (arith, l, e))
      | inr b ↦ a.0 ∙ sym b.0
    ]
  ]

  live_once : (n i j class : ℕ) → slice_get (live_below nets classes n) i ≡ Some class → slice_get (live_below nets classes n) j ≡ Some class → i ≡ j
  unfolding live_below
  live_once zero i j class hi hj = absurd cc
  live_once (suc n) i j class hi hj = two_places n (test n) i j class (λ k l hk hl. live_once n k l class hk hl) hi hj

  found_in : (n class : ℕ) (b : Bool) → test n ≡ b → class < suc n → test class ≡ true → (class < n → (place : ℕ) × (slice_get (live_below nets classes n) place ≡ Some class))
      → (place : ℕ) × (slice_get (live_below nets classes n ++ cond b (n ∷ []) []) place ≡ Some class)
  found_in n class b e below live before = by (below_cases class n below)
    where
      at_end : (b : Bool) → test n ≡ b → class ≡ n → (place : ℕ) × (slice_get (live_below nets classes n ++ cond b (n ∷ []) []) place ≡ Some class)
      at_end true t s = (length (live_below nets classes n), get_last (live_below nets classes n) n ∙ ap Some (sym s))
      at_end false t s = absurd (false≢true (sym t ∙ (ap test (sym s) ∙ live)))

      by : (class < n) ⊎ (class ≡ n) → (place : ℕ) × (slice_get (live_below nets classes n ++ cond b (n ∷ []) []) place ≡ Some class)
      by (inl l) = let r = before l in (r.0, get_left (live_below nets classes n) (cond b (n ∷ []) []) r.0 class r.1)
      by (inr s) = at_end b e s

  live_all : (n class : ℕ) → class < n → test class ≡ true → (place : ℕ) × (slice_get (live_below nets classes n) place ≡ Some class)
  unfolding live_below
  live_all zero class below live = absurd (omega (arith, below))
  live_all (suc n) class below live = found_in n class (test n) refl below live (λ l. live_all n class l live)

  -- the live classes, each once
  pub are_live : AreLiveClasses nets classes (live_below nets classes classes.count)
  are_live = record {
    each = live_each classes.count;
    once = λ place other class a b. live_once classes.count place other class a b;
    all = live_all classes.count;
  }
