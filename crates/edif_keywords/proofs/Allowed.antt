-- A word is an allowed keyword exactly where one of those that are allowed is spelled so.
use Rattle.std.proofs.Common.{◌≡◌, ◌∙◌, sym, ap, subst, refl, cond, ◌||◌, Bool, true, false, ℕ, List, [], ◌∷◌, Option, Some, None}
use Rattle.std.specs.List.{find}
use Rattle.edif_values.specs.declared.keyword.Keyword.{Keyword}
use Rattle.edif_values.specs.Keywords.{is_spelled, keywords, keyword_of, same_keyword, has, if_allowed, allowed_keyword}
use Rattle.edif_values.proofs.Same.{spelled_alike, same_as_itself, one_answer}
use Rattle.edif_keywords.proofs.Slots.{find_passes, found}

-- where a word is a keyword, a keyword is spelled so exactly where it is this one
spelled_same : (word : List ℕ) (a k : Keyword) → keyword_of word ≡ Some a → is_spelled word k ≡ same_keyword k a
unfolding keyword_of
spelled_same word a k e = one_answer _ _ there back
  where
    there : is_spelled word k ≡ true → same_keyword k a ≡ true
    there h = same_as_itself k a (let both : Some k ≡ Some a = sym (found word k h).1 ∙ e in cc)

    back : same_keyword k a ≡ true → is_spelled word k ≡ true
    back h = ap (is_spelled word) (spelled_alike k a h) ∙ find_passes (is_spelled word) a keywords e

-- it is found among some exactly where it is one of them
among : (word : List ℕ) (a : Keyword) → keyword_of word ≡ Some a → (allowed : List Keyword) → find (is_spelled word) allowed ≡ cond (has allowed a) (Some a) None
unfolding has
among word a e [] = refl
among word a e (k ∷ ks) = ap (λ (t : Bool). cond t (Some k) (find (is_spelled word) ks)) (spelled_same word a k e) ∙ by (same_keyword k a) refl (among word a e ks)
  where
    by : (t : Bool) → same_keyword k a ≡ t → find (is_spelled word) ks ≡ cond (has ks a) (Some a) None → cond t (Some k) (find (is_spelled word) ks) ≡ cond (t || has ks a) (Some a) None
    by true h later = ap Some (spelled_alike k a h)
    by false h later = later

-- where a word is no keyword, none is spelled so
unspelled : (word : List ℕ) → keyword_of word ≡ None → (allowed : List Keyword) → find (is_spelled word) allowed ≡ None
unspelled word e [] = refl
unspelled word e (k ∷ ks) = by (is_spelled word k) refl (unspelled word e ks)
  where
    by : (t : Bool) → is_spelled word k ≡ t → find (is_spelled word) ks ≡ None → cond t (Some k) (find (is_spelled word) ks) ≡ None
    by true h later = let both : Some k ≡ None = sym (found word k h).1 ∙ e in absurd cc
    by false h later = later

pub allowed_suffice : (allowed : List Keyword) (word : List ℕ) → find (is_spelled word) allowed ≡ allowed_keyword allowed word
allowed_suffice allowed word = by (keyword_of word) refl
  where
    by : (r : Option Keyword) → keyword_of word ≡ r → find (is_spelled word) allowed ≡ if_allowed allowed r
    by None e = unspelled word e allowed
    by (Some a) e = among word a e allowed

-- what is found among some is one of them
pub allowed_is : (allowed : List Keyword) (word : List ℕ) (q : Keyword) → allowed_keyword allowed word ≡ Some q → has allowed q ≡ true
allowed_is allowed word q e = by (keyword_of word) e
  where
    one : (r : Keyword) (t : Bool) → has allowed r ≡ t → cond t (Some r) None ≡ Some q → has allowed q ≡ true
    one r true is h = let same : r ≡ q = cc in subst (λ u. has allowed u ≡ true) same is
    one r false is h = absurd cc

    by : (r : Option Keyword) → if_allowed allowed r ≡ Some q → has allowed q ≡ true
    by None h = absurd cc
    by (Some r) h = one r (has allowed r) refl h
