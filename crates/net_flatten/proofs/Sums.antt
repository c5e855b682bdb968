-- sums over lists, and lists of numbers that each stand once
use Rattle.std.proofs.Common.{◌≡◌, ℕ, zero, suc, ◌+◌, ◌<◌, ◌≤◌, ◌⊎◌, inl, inr, List, [], ◌∷◌, ◌++◌, Bool, true, false, cond, eqb, refl, sym, ap, subst, length, map, filter, sum_by, arith}
use Rattle.std.specs.Prelude.{Contains}
use Rattle.std.specs.List.{range_with_len}
use Rattle.std.proofs.lemmas.Bool.Decides.{nat_tests}
use Rattle.std.proofs.lemmas.List.Elements.{Contains-append_cases, Contains-append_left, Contains-append_right}
use Rattle.std.proofs.lemmas.List.Sums.{sum_by-append, sum_by-cons}
use Rattle.flat_classes.proofs.KindLaws.{first_or_rest, in_first, in_rest, nothing_in}
use Rattle.flat_classes.proofs.LeafLists.{from_filter}
use Rattle.flat_numbers.proofs.Linking.{contains_there}
use Rattle.net_flatten_cells.proofs.OrderLaws.{StandOnce}
use Rattle.net_graph.proofs.OrderLaws.{StandsIn, contained}

-- ---- numbers that each stand once

pub once_rest : (x : ℕ) (xs : List ℕ) → StandOnce (x ∷ xs) → StandOnce xs
once_rest x xs once i j n e f = let same : suc i ≡ suc j = once (suc i) (suc j) n e f in omega (arith, same)

pub once_first : (x : ℕ) (xs : List ℕ) → StandOnce (x ∷ xs) → ¬ Contains xs x
once_first x xs once c = let s : StandsIn xs x = contained xs x c in let same : zero ≡ suc s.place = once 0 (suc s.place) x refl s.is_there in omega (arith, same)

once_more : (x : ℕ) (xs : List ℕ) → ¬ Contains xs x → StandOnce xs → StandOnce (x ∷ xs)
once_more x xs fresh once zero zero n e f = refl
once_more x xs fresh once zero (suc j) n e f = let same : x ≡ n = cc in absurd (fresh (subst (Contains xs) (sym same) (contains_there xs j n f)))
once_more x xs fresh once (suc i) zero n e f = let same : x ≡ n = cc in absurd (fresh (subst (Contains xs) (sym same) (contains_there xs i n e)))
once_more x xs fresh once (suc i) (suc j) n e f = ap suc (once i j n e f)

pub once_filter : (test : ℕ → Bool) (xs : List ℕ) → StandOnce xs → StandOnce (filter test xs)
once_filter test [] once = once
once_filter test (x ∷ xs) once = by (test x) (once_filter test xs (once_rest x xs once))
  where
    by : (b : Bool) → StandOnce (filter test xs) → StandOnce (cond b (x ∷ filter test xs) (filter test xs))
    by true rest = once_more x (filter test xs) (λ c. once_first x xs once (from_filter test xs x c).0) rest
    by false rest = rest

-- ---- sums

-- the list with one of its elements taken out
record Split (ys : List ℕ) (x : ℕ) : Type 0 where
  front : List ℕ
  back : List ℕ
  parts : ys ≡ front ++ x ∷ back

split : (ys : List ℕ) (x : ℕ) → Contains ys x → Split ys x
split [] x c = absurd (nothing_in x c)
split (y ∷ ys) x c = elim (first_or_rest y ys x c) [
  | inl same ↦ record { front = []; back = ys; parts = ap (λ w. w ∷ ys) same }
  | inr r ↦ let s : Split ys x = split ys x r in record { front = y ∷ s.front; back = s.back; parts = ap (λ w. y ∷ w) s.parts }
]

-- numbers that each stand once among others have no greater sum than these
pub sum_within : (f : ℕ → ℕ) (xs ys : List ℕ) → StandOnce xs → ((x : ℕ) → Contains xs x → Contains ys x) → sum_by f xs ≤ sum_by f ys
sum_within f [] ys once among = omega arith
sum_within f (x ∷ xs) ys once among =
    let s : Split ys x = split ys x (among x (in_first x xs)) in
    let others : (y : ℕ) → Contains xs y → Contains (s.front ++ s.back) y = λ y c.
    elim (Contains-append_cases s.front (x ∷ s.back) y (subst (λ w. Contains w y) s.parts (among y (in_rest x xs y c)))) as (λ _. Contains (s.front ++ s.back) y) [
      | inl front ↦ Contains-append_left s.front s.back y front
      | inr behind ↦ elim (first_or_rest x s.back y behind) as (λ _. Contains (s.front ++ s.back) y) [
        | inl same ↦ absurd (once_first x xs once (subst (Contains xs) (sym same) c))
        | inr back ↦ Contains-append_right s.front s.back y back
      ]
    ] in
    let rest = sum_within f xs (s.front ++ s.back) (once_rest x xs once) others in
    let whole = ap (sum_by f) s.parts in
    let a = sum_by-append f s.front (x ∷ s.back) in
    let b = sum_by-append f s.front s.back in
    let c = sum_by-cons f x s.back in
    let d = sum_by-cons f x xs in
    omega (arith, rest, whole, a, b, c, d)

pub sum_mapped : {A B : Type 0} (f : B → ℕ) (g : A → B) (xs : List A) → sum_by f (map g xs) ≡ sum_by (λ x. f (g x)) xs
sum_mapped f g [] = refl
sum_mapped f g (x ∷ xs) = let a = sum_by-cons f (g x) (map g xs) in let b = sum_by-cons (λ y. f (g y)) x xs in let r = sum_mapped f g xs in omega (arith, a, b, r)

pub sum_filtered : {A : Type 0} (f : A → ℕ) (test : A → Bool) (xs : List A) → sum_by f (filter test xs) ≤ sum_by f xs
sum_filtered f test [] = omega arith
sum_filtered f test (x ∷ xs) = let r = sum_filtered f test xs in let c = sum_by-cons f x xs in by (test x) (omega (arith, r, c))
  where
    by : (b : Bool) → (f x + sum_by f (filter test xs) ≤ sum_by f (x ∷ xs)) → sum_by f (cond b (x ∷ filter test xs) (filter test xs)) ≤ sum_by f (x ∷ xs)
    by true le = let c = sum_by-cons f x (filter test xs) in omega (arith, le, c)
    by false le = omega (arith, le)

pub sum_at_most : {A : Type 0} (f g : A → ℕ) (xs : List A) → ((x : A) → f x ≤ g x) → sum_by f xs ≤ sum_by g xs
sum_at_most f g [] le = omega arith
sum_at_most f g (x ∷ xs) le = let a = sum_by-cons f x xs in let b = sum_by-cons g x xs in let r = sum_at_most f g xs le in let h = le x in omega (arith, a, b, r, h)

-- ---- how many elements have one of the values

nat_order : (a b : ℕ) → (a < b) ⊎ ((a ≡ b) ⊎ (b < a))
nat_order a b = grind arith

same_or_other : (a b : ℕ) → (a ≡ b) ⊎ ¬ (a ≡ b)
same_or_other a b = elim (nat_order a b) [ inl lt ↦ inr (λ e. omega arith) | inr (inl e) ↦ inl e | inr (inr lt) ↦ inr (λ e. omega arith) ]

-- one where the value is this one, and none where it is another
abbrev is_value : ℕ → ℕ → ℕ
is_value value v = cond (eqb value v) 1 0

other_value : (value first : ℕ) → value < first → is_value value first ≡ 0
other_value value first lt = grind (arith, nat_tests)

same_value : (value first : ℕ) → value ≡ first → is_value value first ≡ 1
same_value value first e = grind (arith, nat_tests)

unlike_value : (value first : ℕ) → ¬ (value ≡ first) → is_value value first ≡ 0
unlike_value value first differ = grind (arith, nat_tests, differ)

none_later : (value first count : ℕ) → value < first → sum_by (is_value value) (range_with_len first count) ≡ 0
none_later value first zero lt = refl
none_later value first (suc count) lt =
    let c = sum_by-cons (is_value value) first (range_with_len (first + 1) count) in
    let r = none_later value (first + 1) count (omega (arith, lt)) in
    let o = other_value value first lt in
    omega (arith, c, r, o)

-- a value is one of a range at most once
one_value : (value first count : ℕ) → sum_by (is_value value) (range_with_len first count) ≤ 1
one_value value first zero = omega arith
one_value value first (suc count) =
    let c = sum_by-cons (is_value value) first (range_with_len (first + 1) count) in
    elim (same_or_other value first) [
      | inl e ↦ let o = same_value value first e in let r = none_later value (first + 1) count (omega (arith, e)) in omega (arith, c, r, o)
      | inr differ ↦ let o = unlike_value value first differ in let r = one_value value (first + 1) count in omega (arith, c, r, o)
    ]

sum_both : {A : Type 0} (f g : A → ℕ) (xs : List A) → sum_by (λ x. f x + g x) xs ≡ sum_by f xs + sum_by g xs
sum_both f g [] = refl
sum_both f g (x ∷ xs) = let a = sum_by-cons f x xs in let b = sum_by-cons g x xs in let c = sum_by-cons (λ y. f y + g y) x xs in let r = sum_both f g xs in omega (arith, a, b, c, r)

sum_nothing : {A : Type 0} (xs : List A) → sum_by (λ x. 0) xs ≡ 0
sum_nothing [] = refl
sum_nothing {A = A} (x ∷ xs) = let c = sum_by-cons (λ (y : A). 0) x xs in let r = sum_nothing xs in omega (arith, c, r)

-- the elements of a list that have one of so many values are no more than all
pub valued_few : {A : Type 0} (value : A → ℕ) (count : ℕ) (xs : List A) → sum_by (λ v. length (filter (λ x. eqb (value x) v) xs)) (range_with_len 0 count) ≤ length xs
valued_few value count [] = let n = sum_nothing (range_with_len 0 count) in omega (arith, n)
valued_few value count (x ∷ xs) =
    let le = sum_at_most (λ v. length (filter (λ y. eqb (value y) v) (x ∷ xs))) (λ v. is_value (value x) v + length (filter (λ y. eqb (value y) v) xs)) (range_with_len 0 count) (λ v. by (eqb (value x) v) (filter (λ y. eqb (value y) v) xs)) in
    let both = sum_both (is_value (value x)) (λ v. length (filter (λ y. eqb (value y) v) xs)) (range_with_len 0 count) in
    let one = one_value (value x) 0 count in
    let rest = valued_few value count xs in
    omega (arith, le, both, one, rest)
  where
    by : (b : Bool) (ys : List _) → length (cond b (x ∷ ys) ys) ≤ cond b 1 0 + length ys
    by true ys = omega arith
    by false ys = omega arith
