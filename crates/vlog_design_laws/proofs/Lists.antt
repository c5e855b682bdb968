-- What holds of each item of lists that are made of lists, and of bytes.
use Rattle.std.proofs.Common.{ℕ, zero, suc, ◌+◌, ◌<◌, Bool, true, false, cond, List, [], ◌∷◌, ◌++◌, map, filter, flat_map, Some, IfSome, arith}
use Rattle.std.specs.Prelude.{find}
use Rattle.std.specs.Str.{IsAscii}
use Rattle.std.specs.List.{AllByRecursion, range_with_len}
use Rattle.vlog_design.specs.Reach.{marked}

module _ {A : Type 0} (P : A → Type 0) where
  pub all_append : (xs ys : List A) → AllByRecursion P xs → AllByRecursion P ys → AllByRecursion P (xs ++ ys)
  all_append [] ys h k = k
  all_append (x ∷ xs) ys h k = (h.0, all_append xs ys h.1 k)

  pub all_filter : (p : A → Bool) (xs : List A) → AllByRecursion P xs → AllByRecursion P (filter p xs)
  all_filter p [] h = h
  all_filter p (x ∷ xs) h = by (p x) (all_filter p xs h.1)
    where
      by : (b : Bool) → AllByRecursion P (filter p xs) → AllByRecursion P (cond b (x ∷ filter p xs) (filter p xs))
      by true rest = (h.0, rest)
      by false rest = rest

  pub all_marked : (marks : List Bool) (xs : List A) → AllByRecursion P xs → AllByRecursion P (marked marks xs)
  all_marked [] xs h = tt
  all_marked (mark ∷ marks) [] h = tt
  all_marked (true ∷ marks) (x ∷ xs) h = (h.0, all_marked marks xs h.1)
  all_marked (false ∷ marks) (x ∷ xs) h = all_marked marks xs h.1

  pub found : (p : A → Bool) (xs : List A) → AllByRecursion P xs → IfSome (find p xs) P
  found p [] h = tt
  found p (x ∷ xs) h = by (p x) (found p xs h.1)
    where
      by : (b : Bool) → IfSome (find p xs) P → IfSome (cond b (Some x) (find p xs)) P
      by true rest = h.0
      by false rest = rest

module _ {A B : Type 0} (P : A → Type 0) (Q : B → Type 0) where
  pub all_map : (f : A → B) → ((x : A) → P x → Q (f x)) → (xs : List A) → AllByRecursion P xs → AllByRecursion Q (map f xs)
  all_map f g [] h = tt
  all_map f g (x ∷ xs) h = (g x h.0, all_map f g xs h.1)

  pub all_flat : (f : A → List B) → ((x : A) → P x → AllByRecursion Q (f x)) → (xs : List A) → AllByRecursion P xs → AllByRecursion Q (flat_map f xs)
  all_flat f g [] h = tt
  all_flat f g (x ∷ xs) h = all_append Q (f x) (flat_map f xs) (g x h.0) (all_flat f g xs h.1)

pub all_such : {A : Type 0} (P Q : A → Type 0) → ((x : A) → P x → Q x) → (xs : List A) → AllByRecursion P xs → AllByRecursion Q xs
all_such P Q g [] h = tt
all_such P Q g (x ∷ xs) h = (g x h.0, all_such P Q g xs h.1)

pub all_below : (a n : ℕ) → AllByRecursion (λ i. i < a + n) (range_with_len a n)
all_below a zero = tt
all_below a (suc n) = (omega arith, all_such (λ i. i < (a + 1) + n) (λ i. i < a + suc n) (λ i h. omega (arith, h)) (range_with_len (a + 1) n) (all_below (a + 1) n))

-- bytes of a text in ASCII
pub ascii_bytes : (bs : List ℕ) → IsAscii bs → AllByRecursion (λ d. d < 256) bs
ascii_bytes [] h = tt
ascii_bytes (b ∷ bs) h = (let k : b < 128 = h 0 in omega (arith, k), ascii_bytes bs (λ i. h (suc i)))
