-- A word is the keyword that is found among those of its slot.
use Rattle.std.proofs.Common.{arith, ◌≡◌, ◌∙◌, inl, inr, sym, ap, subst, refl, ℕ, zero, suc, ◌+◌, ◌*◌, ◌%◌, ◌<◌, ◌≤◌, nat_le, Bool, cond, true, false, ◌&&◌, Option, Some, None, List, [], ◌∷◌, length, map}
use Rattle.std.proofs.lemmas.List.{length-map}
use Rattle.std.proofs.lemmas.Bool.{cases_order}
use Rattle.std.proofs.lemmas.Bool.Decides.{nat_tests}
use Rattle.std.specs.Str.{bytes_eq}
use Rattle.std.proofs.lemmas.Slice.Eq.{bytes_eq-Decides}
use Rattle.std.specs.List.{find}
use Rattle.nl_base.specs.Case.{small, same_up_to_case}
use Rattle.edif_values.specs.declared.keyword.Keyword.{Keyword}
use Rattle.edif_values.specs.Keywords.{spelling, is_spelled, keywords, keyword_of}
use Rattle.edif_keywords.specs.Slots.{start_at, candidates, of_slot}
use Rattle.edif_values.proofs.Spelled.{found_in_all}
use Rattle.edif_keywords.proofs.Spelled.{found_in_slot}

-- whether a test passes for each number below a bound
abbrev passes_below : (ℕ → Bool) → ℕ → Bool
passes_below test zero = true
passes_below test (suc bound) = test bound && passes_below test bound

both : (s t : Bool) → (s && t) ≡ true → (s ≡ true) × (t ≡ true)
both true t h = (refl, h)
both false t h = absurd cc

below : (test : ℕ → Bool) (bound n : ℕ) → passes_below test bound ≡ true → n < bound → test n ≡ true
below test zero n h lt = absurd (omega arith)
below test (suc bound) n h lt = elim (cases_order n bound) [
  | inl e ↦ subst (λ m. test m ≡ true) (sym e) (both (test bound) _ h).0
  | inr (inl less) ↦ below test bound n (both (test bound) _ h).1 less
  | inr (inr more) ↦ absurd (omega arith)
]

abbrev in_order : ℕ → Bool
in_order n = nat_le (start_at n) (start_at (n + 1)) && nat_le (start_at (n + 1)) 147

all_in_order : passes_below in_order 64 ≡ true
unfolding start_at
all_in_order = refl

pub starts : (n : ℕ) → n < 64 → (start_at n ≤ start_at (n + 1)) × (start_at (n + 1) ≤ 147)
starts n lt =
    let h : in_order n ≡ true = below in_order 64 n all_in_order lt in
    let parts = both (nat_le (start_at n) (start_at (n + 1))) (nat_le (start_at (n + 1)) 147) h in
    (grind (arith, nat_tests, parts.0), grind (arith, nat_tests, parts.1))

-- what a search finds passes its test
pub find_passes : {X : Type 0} (test : X → Bool) (x : X) (xs : List X) → find test xs ≡ Some x → test x ≡ true
find_passes {X} test x [] e = absurd cc
find_passes {X} test x (y ∷ ys) e = go (test y) refl (find_passes test x ys) e
  where
    go : (t : Bool) → test y ≡ t → (find test ys ≡ Some x → test x ≡ true) → cond t (Some y) (find test ys) ≡ Some x → test x ≡ true
    go true h later e = let same : y ≡ x = cc in subst (λ z. test z ≡ true) same h
    go false h later e = later e

small_letters : (a b : List ℕ) → same_up_to_case a b ≡ true → map small a ≡ map small b
small_letters a b h = (bytes_eq-Decides (map small a) (map small b)).0 h

-- words that are alike up to case have one slot
slots : (a b : List ℕ) → map small a ≡ map small b → candidates a ≡ candidates b
unfolding candidates
slots [] [] e = refl
slots [] (y ∷ ys) e = absurd cc
slots (x ∷ xs) [] e = absurd cc
slots (x ∷ xs) (y ∷ ys) e =
    let first : small x ≡ small y = cc in
    let count : length (x ∷ xs) ≡ length (y ∷ ys) = sym (length-map (x ∷ xs) small) ∙ ap length e ∙ length-map (y ∷ ys) small in
    ap (λ n. of_slot ((n + 41 * small x) % 64)) count ∙ ap (λ s. of_slot ((length (y ∷ ys) + 41 * s) % 64)) first

-- a keyword that is spelled so is the one that is found, in the slot and among all
pub found : (word : List ℕ) (a : Keyword) → is_spelled word a ≡ true → (find (is_spelled word) (candidates word) ≡ Some a) × (keyword_of word ≡ Some a)
unfolding keyword_of
found word a h =
    let e = small_letters word (spelling a) h in (
      ap (λ s. find (λ k. bytes_eq s (map small (spelling k))) (candidates word)) e ∙ ap (λ row. find (is_spelled (spelling a)) row) (slots word (spelling a) e) ∙ found_in_slot a,
      ap (λ s. find (λ k. bytes_eq s (map small (spelling k))) keywords) e ∙ found_in_all a,
    )

pub candidates_suffice : (word : List ℕ) → find (is_spelled word) (candidates word) ≡ keyword_of word
unfolding keyword_of
candidates_suffice word = go (find (is_spelled word) (candidates word)) (keyword_of word) refl refl
  where
    go : (m n : Option Keyword) → find (is_spelled word) (candidates word) ≡ m → keyword_of word ≡ n → find (is_spelled word) (candidates word) ≡ keyword_of word
    go (Some a) n e f = e ∙ sym (found word a (find_passes (is_spelled word) a (candidates word) e)).1
    go None None e f = e ∙ sym f
    go None (Some b) e f = let g = (found word b (find_passes (is_spelled word) b keywords f)).0 in absurd cc
