-- Lists that are made item by item.
use Rattle.std.proofs.Common.{◌≡◌, ℕ, zero, suc, ◌+◌, ◌<◌, List, [], ◌∷◌, ◌++◌, map, length, take, drop, get_or, Option, Some, None, refl, ap, ◌∙◌, arith}
use Rattle.std.specs.Prelude.{option_to_list}
use Rattle.std.specs.List.{cons_option, enumerate_from, filter_map, flat_map}
use Rattle.std.proofs.lemmas.List.{append-nil, map-append, take_more}
use Rattle.std.proofs.lemmas.List.Elements.{filter_map-append}
use Rattle.std.proofs.lemmas.Grind.{flat_map-append}

cons-one : {Y : Type 0} (o : Option Y) → cons_option o [] ≡ option_to_list o
cons-one None = refl
cons-one (Some y) = refl

-- one more item
pub filter_map_more : {X Y : Type 0} (f : X → Option Y) (xs : List X) (i : ℕ) (d : X) → i < length xs → filter_map f (take (i + 1) xs) ≡ filter_map f (take i xs) ++ option_to_list (f (get_or xs i d))
filter_map_more f xs i d h =
    ap (filter_map f) (take_more xs i d h) ∙ (filter_map-append f (take i xs) (get_or xs i d ∷ []) ∙ ap (λ ys. filter_map f (take i xs) ++ ys) (cons-one (f (get_or xs i d))))

pub flat_map_more : {X Y : Type 0} (f : X → List Y) (xs : List X) (i : ℕ) (d : X) → i < length xs → flat_map f (take (i + 1) xs) ≡ flat_map f (take i xs) ++ f (get_or xs i d)
flat_map_more f xs i d h =
    ap (flat_map f) (take_more xs i d h) ∙ (flat_map-append f (take i xs) (get_or xs i d ∷ []) ∙ ap (λ ys. flat_map f (take i xs) ++ ys) (append-nil (f (get_or xs i d))))

pub map_more : {X Y : Type 0} (f : X → Y) (xs : List X) (i : ℕ) (d : X) → i < length xs → map f (take (i + 1) xs) ≡ map f (take i xs) ++ f (get_or xs i d) ∷ []
map_more f xs i d h = ap (map f) (take_more xs i d h) ∙ map-append f (take i xs) (get_or xs i d ∷ [])

-- numbers go on
pub enumerate_from-append : {X : Type 0} (n : ℕ) (xs ys : List X) → enumerate_from n (xs ++ ys) ≡ enumerate_from n xs ++ enumerate_from (n + length xs) ys
enumerate_from-append n [] ys = ap (λ m. enumerate_from m ys) (let e : n ≡ n + 0 = omega arith in e)
enumerate_from-append n (x ∷ xs) ys =
    ap (λ zs. (n, x) ∷ zs) (enumerate_from-append (n + 1) xs ys ∙ ap (λ m. enumerate_from (n + 1) xs ++ enumerate_from m ys) (let e : n + 1 + length xs ≡ n + suc (length xs) = omega arith in e))

pub enumerate_more : {X : Type 0} (n : ℕ) (xs : List X) (i : ℕ) (d : X) → i < length xs → enumerate_from n (take (i + 1) xs) ≡ enumerate_from n (take i xs) ++ (n + i, get_or xs i d) ∷ []
enumerate_more n xs i d h =
    ap (enumerate_from n) (take_more xs i d h)
    ∙ (enumerate_from-append n (take i xs) (get_or xs i d ∷ []) ∙ ap (λ m. enumerate_from n (take i xs) ++ (n + m, get_or xs i d) ∷ []) (long xs i h))
  where
    long : {X : Type 0} (xs : List X) (i : ℕ) → i < length xs → length (take i xs) ≡ i
    long [] i h = absurd (omega arith)
    long (x ∷ xs) zero h = refl
    long (x ∷ xs) (suc i) h = ap suc (long xs i (omega arith))

drop_suc : {X : Type 0} (xs : List X) (i : ℕ) (d : X) → i < length xs → drop i xs ≡ get_or xs i d ∷ drop (suc i) xs
drop_suc [] i d h = absurd (omega arith)
drop_suc (x ∷ xs) zero d h = refl
drop_suc (x ∷ xs) (suc i) d h = drop_suc xs i d (omega arith)

-- the items from a place on, where there is one
pub drop_more : {X : Type 0} (xs : List X) (i : ℕ) (d : X) → i < length xs → drop i xs ≡ get_or xs i d ∷ drop (i + 1) xs
drop_more xs i d h = drop_suc xs i d h ∙ ap (λ n. get_or xs i d ∷ drop n xs) (let e : suc i ≡ i + 1 = omega arith in e)

pub drop_all : {X : Type 0} (xs : List X) (i : ℕ) → length xs ≡ i → drop i xs ≡ []
drop_all [] zero h = refl
drop_all [] (suc i) h = refl
drop_all (x ∷ xs) zero h = absurd (omega arith)
drop_all (x ∷ xs) (suc i) h = drop_all xs i (omega arith)
