-- Those of a list of which something holds.
use Rattle.std.proofs.Common.{◌≡◌, ℕ, ◌+◌, ◌<◌, ◌≤◌, ◌⊎◌, inl, inr, List, [], ◌∷◌, refl, sym, ◌∙◌, ap, subst, Bool, true, false, cond, ◌&&◌, eqb, length, filter, arith}
use Rattle.std.specs.Prelude.{Contains}
use Rattle.std.specs.List.{range_with_len}
use Rattle.std.proofs.lemmas.Bool.{eqb-false}
use Rattle.net_hier.proofs.PathLaws.{element_there}
use Rattle.flat_numbers.proofs.Linking.{contains_there}
use Rattle.flat_classes.proofs.FlatLaws.{filtered_range}
use Rattle.flat_classes.proofs.KindLaws.{first_or_rest, in_first, in_range_list, in_rest, nothing_in}
use Rattle.net_lint.specs.Findings.{AreThose, at_end, listed, passed}

pub eqb_same : (a b : ℕ) → a ≡ b → eqb a b ≡ true
eqb_same a b same = by (eqb a b) refl
  where
    by : (t : Bool) → eqb a b ≡ t → t ≡ true
    by true e = refl
    by false e = absurd (eqb-false a b e same)

pub both_true : (a b : Bool) → (a && b) ≡ true → (a ≡ true) × (b ≡ true)
both_true true b e = (refl, e)
both_true false b e = absurd (cc)

-- a test that says of each whether the fact holds chooses those
pub those_of : {A : Type 0} (Holds : A → Type 0) (test : A → Bool) (xs : List A) → ((x : A) → Contains xs x → test x ≡ true → Holds x) → ((x : A) → Contains xs x → test x ≡ false → ¬ Holds x) → AreThose Holds xs (filter test xs)
those_of Holds test [] holds fails = at_end
those_of Holds test (x ∷ xs) holds fails = by (test x) refl (those_of Holds test xs (λ y c. holds y (in_rest x xs y c)) (λ y c. fails y (in_rest x xs y c)))
  where
    by : (b : Bool) → test x ≡ b → AreThose Holds xs (filter test xs) → AreThose Holds (x ∷ xs) (cond b (x ∷ filter test xs) (filter test xs))
    by true e rest = listed (holds x (in_first x xs) e) rest
    by false e rest = passed (fails x (in_first x xs) e) rest

-- those are one list
pub one_those : {A : Type 0} {Holds : A → Type 0} {xs a b : List A} → AreThose Holds xs a → AreThose Holds xs b → a ≡ b
one_those at_end at_end = refl
one_those (listed {item = x} h rest) (listed k others) = ap (λ w. x ∷ w) (one_those rest others)
one_those (listed h rest) (passed k others) = absurd (k h)
one_those (passed h rest) (listed k others) = absurd (h k)
one_those (passed h rest) (passed k others) = one_those rest others

-- what is chosen stands in the list, and the fact holds of it
pub chosen_holds : {A : Type 0} {Holds : A → Type 0} {xs a : List A} → AreThose Holds xs a → (x : A) → Contains a x → Contains xs x × Holds x
chosen_holds at_end x c = absurd (nothing_in x c)
chosen_holds {Holds = Holds} (listed {item = y} {items = xs} {chosen = a} h rest) x c = elim (first_or_rest y a x c) as (λ _. Contains (y ∷ xs) x × Holds x) [
  | inl e ↦ (subst (Contains (y ∷ xs)) e (in_first y xs), subst Holds e h)
  | inr r ↦ let k = chosen_holds rest x r in (in_rest y xs x k.0, k.1)
]
chosen_holds (passed {item = y} {items = xs} h rest) x c = let k = chosen_holds rest x c in (in_rest y xs x k.0, k.1)

-- a number below a bound is one of those from 0
pub counted : (n k : ℕ) → k < n → Contains (range_with_len 0 n) k
counted n k lt = let e : 0 + k ≡ k = omega arith in subst (Contains (range_with_len 0 n)) e (in_range_list n 0 k lt)

-- a list of fewer than two has one element
pub few_same : (xs : List ℕ) (i j : ℕ) → Contains xs i → Contains xs j → length xs < 2 → i ≡ j
few_same [] i j c d few = absurd (nothing_in i c)
few_same (x ∷ []) i j c d few = elim (first_or_rest x [] i c) [
  | inl e ↦ elim (first_or_rest x [] j d) [ inl f ↦ sym e ∙ f | inr r ↦ absurd (nothing_in j r) ]
  | inr r ↦ absurd (nothing_in i r)
]
few_same (x ∷ y ∷ xs) i j c d few = absurd (omega (arith, few))

-- two numbers of a range that are kept differ
pub kept_two : (test : ℕ → Bool) (n : ℕ) → 2 ≤ length (filter test (range_with_len 0 n)) → (i : ℕ) × (j : ℕ) × Contains (filter test (range_with_len 0 n)) i × Contains (filter test (range_with_len 0 n)) j × (i < j)
kept_two test n two =
    let (i, first) = element_there (filter test (range_with_len 0 n)) 0 (omega (arith, two)) in
    let (j, second) = element_there (filter test (range_with_len 0 n)) 1 (omega (arith, two)) in
    (i, j, contains_there (filter test (range_with_len 0 n)) 0 i first, contains_there (filter test (range_with_len 0 n)) 1 j second, filtered_range test n 0 0 1 i j (omega arith) first second)

same_or_other : (a b : ℕ) → (a ≡ b) ⊎ ((a < b) ⊎ (b < a))
same_or_other a b = grind arith

-- one of two that differ is another than this
pub another_of : (i j k : ℕ) → i < j → ((i ≡ k → ⊥) ⊎ (j ≡ k → ⊥))
another_of i j k lt = elim (same_or_other i k) [ inl e ↦ inr (λ f. omega (arith, lt, e, f)) | inr (inl less) ↦ inl (λ f. omega (arith, less, f)) | inr (inr less) ↦ inl (λ f. omega (arith, less, f)) ]
