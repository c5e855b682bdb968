-- elements of lists
use Rattle.std.proofs.Common.{◌≡◌, ℕ, zero, suc, ◌++◌, ◌⊎◌, inl, inr, Bool, true, false, cond, List, [], ◌∷◌, Some, map, filter, slice_get, refl, sym, ◌∙◌, ap, subst, arith, Contains}
use Rattle.std.specs.List.{flat_map}
use Rattle.std.proofs.lemmas.List.Elements.{Contains-append_right, Contains-append_left, Contains-append_cases}
use Rattle.std.proofs.lemmas.Option.{slice_get-get_or, slice_get_within, get_or_from_slice_get}

pub Contains-cons_cases : {X : Type 0} (x : X) (xs : List X) (y : X) → Contains (x ∷ xs) y → (x ≡ y) ⊎ Contains xs y
Contains-cons_cases x xs y (zero, h, e) = inl e
Contains-cons_cases x xs y (suc k, h, e) = inr (k, omega arith, e)

pub Contains-cons_there : {X : Type 0} (x : X) (xs : List X) (y : X) → Contains xs y → Contains (x ∷ xs) y
Contains-cons_there x xs y h = Contains-append_right (x ∷ []) xs y h

pub Contains-cons_here : {X : Type 0} (x : X) (xs : List X) → Contains (x ∷ xs) x
Contains-cons_here x xs = (0, omega arith, refl)

pub no_member : {X : Type 0} (x : X) → Contains [] x → ⊥
no_member x h = omega (arith, h.1)

-- an image of an element, and the element of an image
pub Contains-map : {X Y : Type 0} (f : X → Y) (xs : List X) (x : X) → Contains xs x → Contains (map f xs) (f x)
Contains-map f [] x h = absurd (no_member x h)
Contains-map f (y ∷ ys) x h =
    elim (Contains-cons_cases y ys x h) as (λ _. Contains (f y ∷ map f ys) (f x)) [
      | inl e ↦ subst (λ z. Contains (f y ∷ map f ys) (f z)) e (Contains-cons_here (f y) (map f ys))
      | inr m ↦ Contains-cons_there (f y) (map f ys) (f x) (Contains-map f ys x m)
    ]

pub Contains-from_map : {X Y : Type 0} (f : X → Y) (xs : List X) (y : Y) → Contains (map f xs) y → (x : X) × Contains xs x × (f x ≡ y)
Contains-from_map f [] y h = absurd (no_member y h)
Contains-from_map {X} f (x ∷ xs) y h =
    elim (Contains-cons_cases (f x) (map f xs) y h) as (λ _. (z : X) × Contains (x ∷ xs) z × (f z ≡ y)) [
      | inl e ↦ (x, Contains-cons_here x xs, e)
      | inr m ↦ let r = Contains-from_map f xs y m in (r.0, Contains-cons_there x xs r.0 r.1, r.2)
    ]

-- an element of the part of one item, and the item of an element
pub Contains-flat_map : {X Y : Type 0} (f : X → List Y) (xs : List X) (x : X) (y : Y) → Contains xs x → Contains (f x) y → Contains (flat_map f xs) y
Contains-flat_map f [] x y h m = absurd (no_member x h)
Contains-flat_map f (z ∷ zs) x y h m =
    elim (Contains-cons_cases z zs x h) as (λ _. Contains (f z ++ flat_map f zs) y) [
      | inl e ↦ Contains-append_left (f z) (flat_map f zs) y (subst (λ w. Contains (f w) y) (sym e) m)
      | inr n ↦ Contains-append_right (f z) (flat_map f zs) y (Contains-flat_map f zs x y n m)
    ]

pub Contains-from_flat_map : {X Y : Type 0} (f : X → List Y) (xs : List X) (y : Y) → Contains (flat_map f xs) y → (x : X) × Contains xs x × Contains (f x) y
Contains-from_flat_map f [] y h = absurd (no_member y h)
Contains-from_flat_map {X} f (x ∷ xs) y h =
    elim (Contains-append_cases (f x) (flat_map f xs) y h) as (λ _. (z : X) × Contains (x ∷ xs) z × Contains (f z) y) [
      | inl m ↦ (x, Contains-cons_here x xs, m)
      | inr m ↦ let r = Contains-from_flat_map f xs y m in (r.0, Contains-cons_there x xs r.0 r.1, r.2)
    ]

-- an element that passes, and back
pub Contains-filter : {X : Type 0} (p : X → Bool) (xs : List X) (x : X) → Contains xs x → p x ≡ true → Contains (filter p xs) x
Contains-filter p [] x h t = absurd (no_member x h)
Contains-filter {X} p (y ∷ ys) x h t = by (p y) refl (λ m. Contains-filter p ys x m t)
  where
    by : (b : Bool) → p y ≡ b → (Contains ys x → Contains (filter p ys) x) → Contains (cond b (y ∷ filter p ys) (filter p ys)) x
    by true e rest = elim (Contains-cons_cases y ys x h) as (λ _. Contains (y ∷ filter p ys) x) [
      | inl s ↦ subst (λ z. Contains (y ∷ filter p ys) z) s (Contains-cons_here y (filter p ys))
      | inr m ↦ Contains-cons_there y (filter p ys) x (rest m)
    ]
    by false e rest = elim (Contains-cons_cases y ys x h) as (λ _. Contains (filter p ys) x) [
      | inl s ↦ absurd (let f : p x ≡ false = subst (λ z. p z ≡ false) s e in cc)
      | inr m ↦ rest m
    ]

pub Contains-from_filter : {X : Type 0} (p : X → Bool) (xs : List X) (x : X) → Contains (filter p xs) x → Contains xs x × (p x ≡ true)
Contains-from_filter p [] x h = absurd (no_member x h)
Contains-from_filter {X} p (y ∷ ys) x h = by (p y) refl h (λ m. Contains-from_filter p ys x m)
  where
    by : (b : Bool) → p y ≡ b → Contains (cond b (y ∷ filter p ys) (filter p ys)) x → (Contains (filter p ys) x → Contains ys x × (p x ≡ true)) → Contains (y ∷ ys) x × (p x ≡ true)
    by true e g rest = elim (Contains-cons_cases y (filter p ys) x g) as (λ _. Contains (y ∷ ys) x × (p x ≡ true)) [
      | inl s ↦ (subst (λ z. Contains (y ∷ ys) z) s (Contains-cons_here y ys), subst (λ z. p z ≡ true) s e)
      | inr m ↦ let r = rest m in (Contains-cons_there y ys x r.0, r.1)
    ]
    by false e g rest = let r = rest g in (Contains-cons_there y ys x r.0, r.1)

-- an element by its place
pub place_of : {X : Type 0} (xs : List X) (x : X) → Contains xs x → (i : ℕ) × (slice_get xs i ≡ Some x)
place_of xs x h = (h.0, slice_get-get_or xs h.0 x h.1 ∙ ap Some h.2)

pub Contains-place : {X : Type 0} (xs : List X) (i : ℕ) (x : X) → slice_get xs i ≡ Some x → Contains xs x
Contains-place xs i x h = (i, slice_get_within xs i x h, get_or_from_slice_get xs i x x h)
