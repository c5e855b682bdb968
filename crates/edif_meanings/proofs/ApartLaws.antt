-- Lists of names that differ up to case.
use Rattle.std.proofs.Common.{◌≡◌, ℕ, zero, suc, Bool, true, false, ◌||◌, List, [], ◌∷◌, ◌++◌, Some, map, refl, sym, ◌∙◌, subst}
use Rattle.std.specs.Prelude.{slice_get}
use Rattle.std.specs.List.{list_any}
use Rattle.std.proofs.lemmas.Bool.{false≢true}
use Rattle.std.proofs.lemmas.List.Folds.{list_any-append}
use Rattle.std.proofs.lemmas.Slice.Eq.{bytes_eq-Decides}
use Rattle.nl_base.specs.Case.{same_bytes, same_up_to_case, small}
use Rattle.edif_lookup.specs.Refusals.{is_in}
use Rattle.edif_meanings.specs.Apart.{AreApart, is_alike_any}

pub or_left : (a b : Bool) → (a || b) ≡ false → a ≡ false
or_left true b h = absurd (false≢true (sym h))
or_left false b h = refl

pub or_right : (a b : Bool) → (a || b) ≡ false → b ≡ false
or_right true b h = absurd (false≢true (sym h))
or_right false b h = h

both_false : (a b : Bool) → a ≡ false → b ≡ false → (a || b) ≡ false
both_false true b h g = absurd (false≢true (sym h))
both_false false b h g = g

no_true : (b : Bool) → (b ≡ true → ⊥) → b ≡ false
no_true true h = absurd (h refl)
no_true false h = refl

-- a name is alike itself
pub alike_itself : (a : List ℕ) → same_up_to_case a a ≡ true
alike_itself a = (bytes_eq-Decides (map small a) (map small a)).1 refl

pub same_itself : (a : List ℕ) → same_bytes a a ≡ true
same_itself a = (bytes_eq-Decides a a).1 refl

-- names with the same bytes are alike
pub same_is_alike : (a b : List ℕ) → same_bytes a b ≡ true → same_up_to_case a b ≡ true
same_is_alike a b h = subst (λ c. same_up_to_case a c ≡ true) ((bytes_eq-Decides a b).0 h) (alike_itself a)

pub alike_back : (a b : List ℕ) → same_up_to_case a b ≡ false → same_up_to_case b a ≡ false
alike_back a b h = no_true (same_up_to_case b a) (λ t. false≢true (sym h ∙ (bytes_eq-Decides (map small a) (map small b)).1 (sym ((bytes_eq-Decides (map small b) (map small a)).0 t))))

-- what passes no test in a list passes it at no place
pub none_at : {A : Type 0} (p : A → Bool) (xs : List A) (i : ℕ) (x : A) → list_any p xs ≡ false → slice_get xs i ≡ Some x → p x ≡ false
none_at p [] i x h there = absurd cc
none_at p (y ∷ ys) zero x h there = subst (λ z. p z ≡ false) (let e : y ≡ x = cc in e) (or_left (p y) (list_any p ys) h)
none_at p (y ∷ ys) (suc i) x h there = none_at p ys i x (or_right (p y) (list_any p ys) h) there

-- one more name that is alike none
pub apart_more : (names : List (List ℕ)) (name : List ℕ) → AreApart names → is_alike_any name names ≡ false → AreApart (names ++ name ∷ [])
unfolding AreApart
apart_more [] name apart new = (refl, tt)
apart_more (first ∷ names) name apart new = (
  list_any-append (same_up_to_case first) names (name ∷ []) ∙ both_false _ _ apart.0 (both_false _ _ (alike_back name first (or_left (same_up_to_case name first) (is_alike_any name names) new)) refl),
  apart_more names name apart.1 (or_right (same_up_to_case name first) (is_alike_any name names) new),
)

pub apart_none : AreApart []
unfolding AreApart
apart_none = tt

not_in : (name : List ℕ) (names : List (List ℕ)) → is_alike_any name names ≡ false → is_in name names ≡ false
not_in name [] h = refl
not_in name (other ∷ names) h =
    both_false (same_bytes name other) (is_in name names)
    (no_true (same_bytes name other) (λ t. false≢true (sym (or_left (same_up_to_case name other) (is_alike_any name names) h) ∙ same_is_alike name other t)))
    (not_in name names (or_right (same_up_to_case name other) (is_alike_any name names) h))

any_back : (name first : List ℕ) (before after : List (List ℕ)) → is_alike_any first (before ++ name ∷ after) ≡ false → same_up_to_case name first ≡ false
any_back name first [] after h = alike_back first name (or_left (same_up_to_case first name) (is_alike_any first after) h)
any_back name first (other ∷ before) after h = any_back name first before after (or_right (same_up_to_case first other) (is_alike_any first (before ++ name ∷ after)) h)

apart_alike : (before : List (List ℕ)) (name : List ℕ) (after : List (List ℕ)) → AreApart (before ++ name ∷ after) → is_alike_any name before ≡ false
unfolding AreApart
apart_alike [] name after apart = refl
apart_alike (first ∷ before) name after apart = both_false (same_up_to_case name first) (is_alike_any name before) (any_back name first before after apart.0) (apart_alike before name after apart.1)

-- no name stands before itself
pub apart_before : (before : List (List ℕ)) (name : List ℕ) (after : List (List ℕ)) → AreApart (before ++ name ∷ after) → is_in name before ≡ false
apart_before before name after apart = not_in name before (apart_alike before name after apart)
