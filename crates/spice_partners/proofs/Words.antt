-- Words that are alike up to case, and their numbers.
use Rattle.std.proofs.Common.{◌≡◌, ℕ, ◌||◌, ◌⊎◌, inl, inr, Bool, true, false, cond, List, [], ◌∷◌, Some, find, map, slice_get, refl, sym, ◌∙◌, ap, subst, arith, Contains}
use Rattle.std.specs.List.{list_any, position_or_len}
use Rattle.std.proofs.lemmas.List.Folds.{find_at}
use Rattle.std.proofs.lemmas.Slice.Eq.{bytes_eq-Decides}
use Rattle.nl_base.specs.Case.{same_bytes, same_up_to_case, small}
use Rattle.net_bits.specs.Names.{NameSet, alike}
use Rattle.net_stars.proofs.Lists.{contains_cases}
use Rattle.to_spice_rules.proofs.Sets.{case_kept, has_with_names}
use Rattle.spice_partners.specs.SpiceDesign.{different, number_in}

-- alike are words that are the same once capital letters are made small
pub alike_small : (a b : List ℕ) → same_up_to_case a b ≡ true → map small a ≡ map small b
alike_small a b h = (bytes_eq-Decides (map small a) (map small b)).0 h

pub small_alike : (a b : List ℕ) → map small a ≡ map small b → same_up_to_case a b ≡ true
small_alike a b e = (bytes_eq-Decides (map small a) (map small b)).1 e

-- an item that passes a test is found
pub record IsFound {X : Type 0} (p : X → Bool) (xs : List X) : Type 0 where
  pub item : X
  pub is_there : slice_get xs (position_or_len p xs) ≡ Some item
  pub passes : p item ≡ true

found_in : {X : Type 0} (p : X → Bool) (xs : List X) → list_any p xs ≡ true → (x : X) × (find p xs ≡ Some x) × (p x ≡ true)
found_in p [] h = absurd cc
found_in {X} p (x ∷ xs) h = by (p x) refl h (λ g. found_in p xs g)
  where
    by : (b : Bool) → p x ≡ b → (b || list_any p xs) ≡ true → (list_any p xs ≡ true → (y : X) × (find p xs ≡ Some y) × (p y ≡ true)) → (y : X) × (cond b (Some x) (find p xs) ≡ Some y) × (p y ≡ true)
    by true e any rest = (x, refl, e)
    by false e any rest = rest any

pub found : {X : Type 0} (p : X → Bool) (xs : List X) → list_any p xs ≡ true → IsFound p xs
found p xs h = let f = found_in p xs h in record { item = f.0; is_there = sym (find_at p xs) ∙ f.1; passes = f.2 }

-- where a list has an item that passes, one passes
pub any_there : {X : Type 0} (p : X → Bool) (xs : List X) (x : X) → Contains xs x → p x ≡ true → list_any p xs ≡ true
any_there p [] x h t = absurd (let l = h.1 in omega (arith, l))
any_there p (y ∷ ys) x h t = by (p y) refl (contains_cases y x ys h) (λ m. any_there p ys x m t)
  where
    by : (b : Bool) → p y ≡ b → (y ≡ x) ⊎ Contains ys x → (Contains ys x → list_any p ys ≡ true) → (b || list_any p ys) ≡ true
    by true e c rest = refl
    by false e (inl same) rest = absurd (let f : false ≡ true = sym e ∙ (ap p same ∙ t) in cc)
    by false e (inr m) rest = rest m

-- ---- sets of words
abbrev no_names : NameSet
no_names = record { up_to_case = true; names = [] }

-- a word is alike to one of the different ones
pub any_different : (words : List (List ℕ)) (word : List ℕ) → Contains words word → list_any (same_up_to_case word) (different words) ≡ true
any_different words word has =
    ap (λ c. list_any (alike c word) (different words)) (sym (case_kept no_names words))
    ∙ (has_with_names no_names words word ∙ any_there (same_up_to_case word) words word has (small_alike word word refl))

-- words that are alike have one number
pub alike_number : (words : List (List ℕ)) (a b : List ℕ) → same_up_to_case a b ≡ true → number_in words a ≡ number_in words b
alike_number words a b h = ap (λ (k : List ℕ). position_or_len (λ (x : List ℕ). same_bytes k (map small x)) words) (alike_small a b h)

-- and words with one number are alike, where they are among the words
pub number_alike : (words : List (List ℕ)) (a b : List ℕ) → Contains words a → Contains words b → number_in (different words) a ≡ number_in (different words) b → same_up_to_case a b ≡ true
number_alike words a b ha hb e =
    let fa : IsFound (same_up_to_case a) (different words) = found (same_up_to_case a) (different words) (any_different words a ha) in
    let fb : IsFound (same_up_to_case b) (different words) = found (same_up_to_case b) (different words) (any_different words b hb) in
    let there : slice_get (different words) (number_in (different words) b) ≡ Some fa.item = subst (λ n. slice_get (different words) n ≡ Some fa.item) e fa.is_there in
    let same : fa.item ≡ fb.item = let g = fb.is_there in cc in
    small_alike a b (alike_small a fa.item fa.passes ∙ (ap (map small) same ∙ sym (alike_small b fb.item fb.passes)))
