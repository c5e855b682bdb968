-- Names that are alike to an earlier one.
use Rattle.std.proofs.Common.{◌≡◌, ℕ, ◌+◌, ◌<◌, ◌≤◌, Bool, true, false, not, cond, if◌then◌else◌, List, [], ◌∷◌, ◌++◌, Option, None, Some, drop, get_or, length, refl, sym, ◌∙◌, ap, add-one, drop-cons, drop_of_length-le}
use Rattle.std.specs.List.{list_any}
use Rattle.std.specs.Borrow.{Bor}
use Rattle.nl_base.specs.Case.{same_up_to_case}
use Rattle.net_bits.specs.Names.{NameSet, alike, has_name, with_name}
use Rattle.net_live.specs.Last.{seen}
use Rattle.to_spice_rules.specs.Names.{alike_again, first_of}

first_if : {A : Type 0} (b : Bool) (x : A) (xs : List A) → first_of (cond b (x ∷ xs) xs) ≡ cond b (Some x) (first_of xs)
first_if true x xs = refl
first_if false x xs = refl

-- one step: the name at i is alike to one before, or the search goes on behind it
alike_left : (before : List (List ℕ)) (names : List (Bor (List ℕ))) (i : ℕ) (d : Bor (List ℕ)) → i < length names →
    first_of (alike_again before (seen (drop i names)))
    ≡ cond (list_any (same_up_to_case (get_or names i d).now) before) (Some (get_or names i d).now) (first_of (alike_again (before ++ (get_or names i d).now ∷ []) (seen (drop (i + 1) names))))
unfolding alike_again
alike_left before names i d h = rw (drop-cons names i d h, add-one) (first_if _ _ _)

by_test : {A : Type 0} (before after : NameSet) (name : List ℕ) (there : Option A) (rest : List (List ℕ) → Option A) (b : Bool) → has_name before name ≡ b → b ≡ false → after ≡ with_name before name →
    cond (has_name before name) there (rest (before.names ++ name ∷ [])) ≡ rest after.names
by_test before after name there rest b e new is =
    ap (λ c. cond c there (rest (before.names ++ name ∷ []))) (e ∙ new) ∙ sym (ap (λ s. rest s.names) is ∙ ap (λ c. rest (if c then before.names else before.names ++ name ∷ [])) (e ∙ new))

not_there : (new there : Bool) → new ≡ not there → new ≡ true → there ≡ false
not_there true true e f = cc
not_there false true e f = cc
not_there new false e f = refl

is_there : (new there : Bool) → new ≡ not there → new ≡ false → there ≡ true
is_there new true e f = refl
is_there true false e f = cc
is_there false false e f = cc

module _ (used : NameSet) (folded : used.up_to_case ≡ true) (names : List (Bor (List ℕ))) (i : ℕ) (d : Bor (List ℕ)) (h : i < length names) (new : Bool) (is : new ≡ not (has_name used (get_or names i d).now)) where
  test : list_any (same_up_to_case (get_or names i d).now) used.names ≡ has_name used (get_or names i d).now
  test = ap (λ c. list_any (alike c (get_or names i d).now) used.names) (sym folded)

  pub again_here : new ≡ false → first_of (alike_again used.names (seen (drop i names))) ≡ Some (get_or names i d).now
  again_here known = alike_left used.names names i d h ∙ ap (λ c. cond c (Some (get_or names i d).now) (first_of (alike_again (used.names ++ (get_or names i d).now ∷ []) (seen (drop (i + 1) names))))) (test ∙ is_there new _ is known)

  pub again_later : new ≡ true → (after : NameSet) → after ≡ with_name used (get_or names i d).now → first_of (alike_again after.names (seen (drop (i + 1) names))) ≡ first_of (alike_again used.names (seen (drop i names)))
  again_later unknown after added = sym (alike_left used.names names i d h
      ∙ (ap (λ c. cond c (Some (get_or names i d).now) (first_of (alike_again (used.names ++ (get_or names i d).now ∷ []) (seen (drop (i + 1) names))))) test
      ∙ by_test used after (get_or names i d).now (Some (get_or names i d).now) (λ ns. first_of (alike_again ns (seen (drop (i + 1) names)))) _ refl (not_there new _ is unknown) added))

  pub still_folded : (after : NameSet) → after ≡ with_name used (get_or names i d).now → after.up_to_case ≡ true
  still_folded after added = ap (λ (s : NameSet). s.up_to_case) added ∙ folded

pub again_none : (before : List (List ℕ)) (names : List (Bor (List ℕ))) (i : ℕ) → length names ≤ i → first_of (alike_again before (seen (drop i names))) ≡ None
unfolding alike_again
again_none before names i h = ap (λ ns. first_of (alike_again before (seen ns))) (drop_of_length-le names {i = i} h)
