-- lists of places by their groups, and lists that loops make
use Rattle.std.proofs.Common.{◌≡◌, ℕ, suc, ◌+◌, ◌-◌, ◌<◌, List, [], ◌∷◌, ◌++◌, refl, sym, ◌∙◌, ap, get_or, Bool, true, false, cond, ◌==◌, length, take, filter, arith}
use Rattle.std.specs.List.{flat_map, range_with_len}
use Rattle.std.proofs.lemmas.Grind.{flat_map-append}
use Rattle.std.proofs.lemmas.List.{append-nil, take_more}
use Rattle.std.proofs.lemmas.List.Elements.{filter-append}
use Rattle.std.proofs.lemmas.List.FromFn.{get_or-map-range_with_len, length-map-range_with_len}
use Rattle.flat_classes.specs.Groups.{AreMembers, group_at}
use Rattle.flat_numbers.proofs.Reading.{range_last}
use Rattle.net_bits.specs.Parts.{AreGroups, part, parts, places_from}

zero_and : (n : ℕ) → 0 + n ≡ n
zero_and n = omega arith

pub range_more : (n : ℕ) → range_with_len 0 (n + 1) ≡ range_with_len 0 n ++ n ∷ []
range_more n = range_last 0 n ∙ ap (λ k. range_with_len 0 n ++ k ∷ []) (zero_and n)

filter_one : {X : Type 0} (p : X → Bool) (x : X) (b : Bool) → p x ≡ b → filter p (x ∷ []) ≡ cond b (x ∷ []) []
filter_one p x b e = ap (λ t. cond t (x ∷ []) []) e

pub filter_range : (p : ℕ → Bool) (n : ℕ) (b : Bool) → p n ≡ b → filter p (range_with_len 0 (n + 1)) ≡ filter p (range_with_len 0 n) ++ cond b (n ∷ []) []
filter_range p n b e = ap (filter p) (range_more n) ∙ (filter-append p (range_with_len 0 n) (n ∷ []) ∙ ap (λ t. filter p (range_with_len 0 n) ++ t) (filter_one p n b e))

-- the places of a number, by what stands at each
places_read : (f : ℕ → ℕ) (from number : ℕ) (xs : List ℕ) → ((k : ℕ) → k < length xs → f (from + k) ≡ get_or xs k 0) → places_from from xs number ≡ filter (λ place. f place == number) (range_with_len from (length xs))
places_read f from number [] reads = refl
places_read f from number (x ∷ xs) reads =
    let here : from + 0 ≡ from = omega arith in
    let first : f from ≡ x = ap f (sym here) ∙ reads 0 (omega arith) in
    let others : List ℕ = filter (λ place. f place == number) (range_with_len (from + 1) (length xs)) in
    let rest : places_from (from + 1) xs number ≡ others = places_read f (from + 1) number xs (λ k lt. let there : from + 1 + k ≡ from + suc k = omega arith in ap f there ∙ reads (suc k) (omega (arith, lt))) in
    ap (λ places. cond (x == number) (from ∷ places) places) rest ∙ ap (λ y. cond (y == number) (from ∷ others) others) (sym first)

-- how many lists lie one behind the other, and each of them
pub parts_count : {X : Type 0} (starts : List ℕ) (items : List X) → length (parts starts items) ≡ length starts - 1
parts_count starts items = length-map-range_with_len (part starts items) 0 (length starts - 1)

pub parts_read : {X : Type 0} (starts : List ℕ) (items : List X) (number : ℕ) → number + 1 < length starts → get_or (parts starts items) number [] ≡ part starts items number
parts_read starts items number h = get_or-map-range_with_len (part starts items) 0 (length starts - 1) number number [] (omega (arith, h)) (omega arith)

-- lists that lie one behind the other are those of the groups
pub members_are : (groups : List ℕ) (count : ℕ) (starts places : List ℕ) → AreGroups groups count starts places → AreMembers groups count (parts starts places)
members_are groups count starts places are = record {
  len = omega (arith, parts_count starts places, are.sums.len);
  members = λ group lt.
      parts_read starts places group (omega (arith, lt, are.sums.len))
      ∙ (are.each group lt ∙ places_read (group_at groups) 0 group groups (λ k below. let there : 0 + k ≡ k = omega arith in ap (group_at groups) there));
}

-- a filtered list, one more item of the list gone over
pub filter_taken : {X : Type 0} (p : X → Bool) (xs : List X) (i : ℕ) (d : X) (b : Bool) → i < length xs → p (get_or xs i d) ≡ b → filter p (take (i + 1) xs) ≡ filter p (take i xs) ++ cond b (get_or xs i d ∷ []) []
filter_taken p xs i d b lt e = ap (filter p) (take_more xs i d lt) ∙ (filter-append p (take i xs) (get_or xs i d ∷ []) ∙ ap (λ t. filter p (take i xs) ++ t) (filter_one p (get_or xs i d) b e))

pub flat_filter_taken : {X Y : Type 0} (f : X → List Y) (p : X → Bool) (xs : List X) (i : ℕ) (d : X) (b : Bool) → i < length xs → p (get_or xs i d) ≡ b →
    flat_map f (filter p (take (i + 1) xs)) ≡ flat_map f (filter p (take i xs)) ++ cond b (f (get_or xs i d)) []
flat_filter_taken f p xs i d true lt e = ap (flat_map f) (filter_taken p xs i d true lt e) ∙ (flat_map-append f (filter p (take i xs)) (get_or xs i d ∷ []) ∙ ap (λ w. flat_map f (filter p (take i xs)) ++ w) (append-nil (f (get_or xs i d))))
flat_filter_taken f p xs i d false lt e = ap (flat_map f) (filter_taken p xs i d false lt e) ∙ flat_map-append f (filter p (take i xs)) []
