-- an element that code has read
use Rattle.std.proofs.Common.{◌≡◌, ◌≢◌, ◌+◌, ◌++◌, map, ℕ, zero, suc, arith, refl, set, [], ◌∷◌, ◌<◌, List, sym, ◌∙◌, ap, get_or, slice_get, Some, length}
use Rattle.std.specs.List.{range_with_len}
use Rattle.std.proofs.lemmas.Option.{slice_get-get_or}

pub element_read : {A : Type 0} (xs : List A) (i : ℕ) (x : A) → i < length xs → x ≡ get_or xs i x → slice_get xs i ≡ Some x
element_read xs i x lt e = slice_get-get_or xs i x lt ∙ ap Some (sym e)

pub get_set_same : {A : Type 0} (xs : List A) (i : ℕ) (x : A) → i < length xs → slice_get (set xs i x) i ≡ Some x
get_set_same [] i x lt = absurd (omega arith)
get_set_same (y ∷ xs) zero x lt = refl
get_set_same (y ∷ xs) (suc i) x lt = get_set_same xs i x (omega arith)

pub get_set_other : {A : Type 0} (xs : List A) (i j : ℕ) (x : A) → i ≢ j → slice_get (set xs i x) j ≡ slice_get xs j
get_set_other [] i j x d = refl
get_set_other (y ∷ xs) zero zero x d = absurd (d refl)
get_set_other (y ∷ xs) zero (suc j) x d = refl
get_set_other (y ∷ xs) (suc i) zero x d = refl
get_set_other (y ∷ xs) (suc i) (suc j) x d = get_set_other xs i j x (λ e. d (ap suc e))

pub nothing_there : {A : Type 0} (xs : List A) → length xs ≡ 0 → xs ≡ []
nothing_there [] e = refl
nothing_there (x ∷ xs) e = absurd (omega (arith, e))

pub map_last : {A B : Type 0} (f : A → B) (xs : List A) (x : A) → map f (xs ++ x ∷ []) ≡ map f xs ++ f x ∷ []
map_last f [] x = refl
map_last f (y ∷ xs) x = ap (λ w. f y ∷ w) (map_last f xs x)

pub range_last : (a n : ℕ) → range_with_len a (n + 1) ≡ range_with_len a n ++ (a + n) ∷ []
range_last a zero = let z : a ≡ a + 0 = omega arith in ap (λ w. w ∷ []) z
range_last a (suc n) =
    let z : suc n + 1 ≡ suc (n + 1) = omega arith in
    let y : (a + 1) + n ≡ a + suc n = omega arith in
    ap (range_with_len a) z ∙ ap (λ w. a ∷ w) (range_last (a + 1) n ∙ ap (λ w. range_with_len (a + 1) n ++ w ∷ []) y)
