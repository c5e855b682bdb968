-- What holds of each item of lists that are made of lists.
use Rattle.std.proofs.Common.{◌≡◌, ℕ, zero, suc, ◌<◌, List, [], ◌∷◌, ◌++◌, Some, IfSome, get_or, length, map, arith}
use Rattle.std.specs.Prelude.{slice_get}
use Rattle.std.specs.List.{AllByRecursion}

pub all_append : {A : Type 0} (P : A → Type 0) (xs ys : List A) → AllByRecursion P xs → AllByRecursion P ys → AllByRecursion P (xs ++ ys)
all_append P [] ys h k = k
all_append P (x ∷ xs) ys h k = (h.0, all_append P xs ys h.1 k)

pub all_map : {A B : Type 0} (P : A → Type 0) (Q : B → Type 0) (f : A → B) → ((x : A) → P x → Q (f x)) → (xs : List A) → AllByRecursion P xs → AllByRecursion Q (map f xs)
all_map P Q f g [] h = tt
all_map P Q f g (x ∷ xs) h = (g x h.0, all_map P Q f g xs h.1)

pub all_both : {A : Type 0} (P Q R : A → Type 0) → ((x : A) → P x → Q x → R x) → (xs : List A) → AllByRecursion P xs → AllByRecursion Q xs → AllByRecursion R xs
all_both P Q R g [] h k = tt
all_both P Q R g (x ∷ xs) h k = (g x h.0 k.0, all_both P Q R g xs h.1 k.1)

-- what holds of the item at each place holds of each item
pub all_places : {A : Type 0} (P : A → Type 0) (xs : List A) → ((i : ℕ) (x : A) → slice_get xs i ≡ Some x → P x) → AllByRecursion P xs
all_places P [] h = tt
all_places P (x ∷ xs) h = (h zero x cc, all_places P xs (λ i y there. h (suc i) y there))

-- and the other way round
pub at_place : {A : Type 0} (P : A → Type 0) (xs : List A) (i : ℕ) → AllByRecursion P xs → IfSome (slice_get xs i) P
at_place P [] i h = tt
at_place P (x ∷ xs) zero h = h.0
at_place P (x ∷ xs) (suc i) h = at_place P xs i h.1

-- the first item, where there is one
pub at_front : {A : Type 0} (P : A → Type 0) (xs : List A) (d : A) → 0 < length xs → AllByRecursion P xs → P (get_or xs 0 d)
at_front P [] d some h = absurd (omega (arith, some))
at_front P (x ∷ xs) d some h = h.0
