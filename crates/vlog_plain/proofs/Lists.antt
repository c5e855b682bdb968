-- Lists of which nothing passes a test, and lists in which nothing clashes.
use Rattle.std.proofs.Common.{◌≡◌, inl, inr, ◌||◌, Bool, true, false, cond, List, [], ◌∷◌, ◌++◌, None, Some, bytes_eq, filter, find, flat_map, refl, ap, subst, ◌∙◌, Contains}
use Rattle.std.specs.List.{list_any}
use Rattle.std.proofs.lemmas.List.Elements.{Contains-append_cases}
use Rattle.std.proofs.lemmas.Slice.Eq.{bytes_eq-Decides}
use Rattle.vlog_design.specs.Names.{Name, clashing}
use Rattle.vlog_written.specs.OwnNames.{AreDistinct}
use Rattle.vlog_written.proofs.Members.{nothing_there, there_cases, there_here, there_later}

-- nothing is made of a list of which no element gives anything
pub flat_none : {A B : Type 0} (f : A → List B) (xs : List A) → ((x : A) → Contains xs x → f x ≡ []) → flat_map f xs ≡ []
flat_none f [] h = refl
flat_none f (x ∷ xs) h = (λ j. h x (there_here x xs) j ++ flat_none f xs (λ y m. h y (there_later x xs y m)) j)

pub filter_none : {A : Type 0} (test : A → Bool) (xs : List A) → ((x : A) → Contains xs x → test x ≡ false) → filter test xs ≡ []
filter_none test [] h = refl
filter_none test (x ∷ xs) h =
    ap (λ b. cond b (x ∷ filter test xs) (filter test xs)) (h x (there_here x xs)) ∙ filter_none test xs (λ y m. h y (there_later x xs y m))

pub find_none : {A : Type 0} (test : A → Bool) (xs : List A) → ((x : A) → Contains xs x → test x ≡ false) → find test xs ≡ None
find_none test [] h = refl
find_none test (x ∷ xs) h = ap (λ b. cond b (Some x) (find test xs)) (h x (there_here x xs)) ∙ find_none test xs (λ y m. h y (there_later x xs y m))

pub any_none : {A : Type 0} (test : A → Bool) (xs : List A) → ((x : A) → Contains xs x → test x ≡ false) → list_any test xs ≡ false
any_none test [] h = refl
any_none test (x ∷ xs) h = ap (λ b. b || list_any test xs) (h x (there_here x xs)) ∙ any_none test xs (λ y m. h y (there_later x xs y m))

-- no element clashes with one that stands before it
abbrev pub AreFree : {A : Type 0} → (A → A → Bool) → List A → Type 0
AreFree clash [] = Unit {0}
AreFree {A = A} clash (x ∷ xs) = ((y : A) → Contains xs y → clash y x ≡ false) × AreFree clash xs

pub free_clash : {A : Type 0} (clash : A → A → Bool) (before xs : List A) → ((x : A) → Contains xs x → (y : A) → Contains before y → clash x y ≡ false) → AreFree clash xs → clashing clash before xs ≡ []
unfolding clashing
free_clash clash before [] h free = refl
free_clash {A} clash before (x ∷ xs) h free =
    ap (λ b. cond b (x ∷ clashing clash (before ++ x ∷ []) xs) (clashing clash (before ++ x ∷ []) xs)) (any_none (clash x) before (h x (there_here x xs)))
    ∙ free_clash clash (before ++ x ∷ []) xs later free.1
  where
    later : (z : A) → Contains xs z → (y : A) → Contains (before ++ x ∷ []) y → clash z y ≡ false
    later z m y k = elim (Contains-append_cases before (x ∷ []) y k) as (λ _. clash z y ≡ false) [
      | inl n ↦ h z (there_later x xs z m) y n
      | inr n ↦ elim (there_cases x [] y n) as (λ _. clash z y ≡ false) [
        | inl e ↦ subst (λ w. clash z w ≡ false) e (free.0 z m)
        | inr o ↦ absurd (nothing_there y o)
      ]
    ]

pub no_clash : {A : Type 0} (clash : A → A → Bool) (xs : List A) → AreFree clash xs → clashing clash [] xs ≡ []
no_clash clash xs free = free_clash clash [] xs (λ x m y k. absurd (nothing_there y k)) free

-- two lists that are free, of which no element of the second clashes with one of the first
pub free_append : {A : Type 0} (clash : A → A → Bool) (xs ys : List A) → AreFree clash xs → AreFree clash ys → ((x y : A) → Contains xs x → Contains ys y → clash y x ≡ false) → AreFree clash (xs ++ ys)
free_append clash [] ys f g h = g
free_append {A} clash (x ∷ xs) ys f g h = (here, free_append clash xs ys f.1 g (λ z y m k. h z y (there_later x xs z m) k))
  where
    here : (y : A) → Contains (xs ++ ys) y → clash y x ≡ false
    here y m = elim (Contains-append_cases xs ys y m) as (λ _. clash y x ≡ false) [
      | inl k ↦ f.0 y k
      | inr k ↦ h x y (there_here x xs) k
    ]

-- names that differ

pub differ : (one other : Name) → (one ≡ other → ⊥) → bytes_eq one other ≡ false
differ one other h = by (bytes_eq one other) refl
  where
    by : (b : Bool) → bytes_eq one other ≡ b → b ≡ false
    by true e = absurd (h ((bytes_eq-Decides one other).0 e))
    by false e = refl

pub same : (one other : Name) → one ≡ other → bytes_eq one other ≡ true
same one other e = (bytes_eq-Decides one other).1 e

pub distinct_free : (names : List Name) → AreDistinct names → AreFree bytes_eq names
distinct_free [] d = tt
distinct_free (name ∷ names) d = ((λ y m. differ y name (λ e. d.0 (subst (Contains names) e m))), distinct_free names d.1)

-- distinct names do not clash
pub none_twice : (names : List Name) → AreDistinct names → clashing bytes_eq [] names ≡ []
none_twice names d = no_clash bytes_eq names (distinct_free names d)
