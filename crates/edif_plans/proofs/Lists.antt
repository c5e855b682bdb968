-- Lists that a loop makes of another one, item by item.
use Rattle.std.proofs.Common.{arith, ◌≡◌, ℕ, zero, suc, ◌+◌, ◌<◌, add-one, append_assoc, List, [], ◌∷◌, ◌++◌, Some, drop, drop-cons, get_or, length, map, refl, sym, ap, ◌∙◌}
use Rattle.std.specs.Prelude.{slice_get}
use Rattle.std.specs.List.{AllByRecursion}
use Rattle.std.proofs.lemmas.List.{map-append}
use Rattle.edif_written.proofs.Lists.{all_at, all_push}

-- inside a list the default plays no part
pub get_within : {A : Type 0} (xs : List A) (i : ℕ) (d e : A) → i < length xs → get_or xs i d ≡ get_or xs i e
get_within [] i d e within = absurd (omega arith)
get_within (x ∷ xs) zero d e within = refl
get_within (x ∷ xs) (suc i) d e within = get_within xs i d e (omega arith)

-- an item that is read inside a list stands at its place
pub is_at : {A : Type 0} (xs : List A) (i : ℕ) (x d : A) → i < length xs → x ≡ get_or xs i d → slice_get xs i ≡ Some x
is_at [] i x d within is = absurd (omega arith)
is_at (y ∷ ys) zero x d within is = ap Some (sym is)
is_at (y ∷ ys) (suc i) x d within is = is_at ys i x d (omega arith) is

-- and one that stands at a place is read there
pub at_get : {A : Type 0} (xs : List A) (i : ℕ) (x d : A) → slice_get xs i ≡ Some x → get_or xs i d ≡ x
at_get [] i x d there = absurd cc
at_get (y ∷ ys) zero x d there = cc
at_get (y ∷ ys) (suc i) x d there = at_get ys i x d there

-- one more item, which shows the same as the next one of the other list
pub map_turn : {A B C : Type 0} (f : B → C) (g : A → C) (xs : List A) (place : ℕ) (x d : A) (made new : List B) (one : B) (whole : List C) → place < length xs → x ≡ get_or xs place d
    → map f made ++ map g (drop place xs) ≡ whole → new ≡ made ++ one ∷ [] → f one ≡ g x → map f new ++ map g (drop (place + 1) xs) ≡ whole
map_turn f g xs place x d made new one whole within is before is_new same =
    let shown : map f new ≡ map f made ++ g x ∷ [] = ap (map f) is_new ∙ (map-append f made (one ∷ []) ∙ ap (λ y. map f made ++ y ∷ []) same) in
    (λ j. shown j ++ map g (drop (add-one place j) xs))
    ∙ (append_assoc (map f made) (g x ∷ []) (map g (drop (suc place) xs))
    ∙ (ap (λ ys. map f made ++ ys) (ap (λ y. g y ∷ map g (drop (suc place) xs)) is ∙ ap (map g) (sym (drop-cons xs place d within))) ∙ before))

-- the same where it shows the next item itself
pub item_turn : {A B : Type 0} (f : B → A) (xs : List A) (place next : ℕ) (x d : A) (made new : List B) (one : B) (whole : List A) → place < length xs → x ≡ get_or xs place d
    → map f made ++ drop place xs ≡ whole → new ≡ made ++ one ∷ [] → f one ≡ x → next ≡ place + 1 → map f new ++ drop next xs ≡ whole
item_turn f xs place next x d made new one whole within is before is_new same is_next =
    let shown : map f new ≡ map f made ++ x ∷ [] = ap (map f) is_new ∙ (map-append f made (one ∷ []) ∙ ap (λ y. map f made ++ y ∷ []) same) in
    (λ j. shown j ++ drop ((is_next ∙ add-one place) j) xs)
    ∙ (append_assoc (map f made) (x ∷ []) (drop (suc place) xs)
    ∙ (ap (λ ys. map f made ++ ys) (ap (λ y. y ∷ drop (suc place) xs) is ∙ sym (drop-cons xs place d within)) ∙ before))

-- one more item, which keeps what it is to keep
pub all_turn : {A B : Type 0} (P : A → Type 0) (Q : B → Type 0) (xs : List A) (place : ℕ) (x d : A) (made new : List B) (one : B) → place < length xs → x ≡ get_or xs place d
    → (AllByRecursion P xs → AllByRecursion Q made) → new ≡ made ++ one ∷ [] → (P x → Q one) → AllByRecursion P xs → AllByRecursion Q new
all_turn P Q xs place x d made new one within is before is_new sound all = all_push Q made new one (before all) (sound (all_at P xs place x d all within is)) is_new
