-- The identifiers of the first names of a list, and of one name more.
use Rattle.std.proofs.Common.{◌≡◌, ℕ, suc, ◌+◌, ◌<◌, ◌≤◌, length, map, take, get_or, append-nil, append_assoc, true, false, List, [], ◌∷◌, ◌++◌, refl, sym, ap, ◌∙◌, subst}
use Rattle.std.specs.Borrow.{Bor}
use Rattle.std.proofs.lemmas.Bool.{false≢true}
use Rattle.std.proofs.lemmas.List.{map-append, take_all, take_more}
use Rattle.edif_meanings.specs.Apart.{AreApart, is_alike_any}
use Rattle.edif_meanings.proofs.ApartLaws.{apart_more, apart_none}
use Rattle.edif_spaces.specs.Spaces.{AreIdents, AreIdentsBehind, IsIdentFor, can_be_own}

-- a name that is its own identifier
pub own_fits : (before : List (List ℕ)) (name ident : List ℕ) → can_be_own name ≡ true → is_alike_any name before ≡ false → ident ≡ name → IsIdentFor before name ident
own_fits before name ident can new is = record {
  own = λ _ _. is;
  unfit = λ no. absurd (false≢true (sym no ∙ can));
  taken = λ t. absurd (false≢true (sym new ∙ t));
}

pub behind_none : AreIdentsBehind [] [] []
unfolding AreIdentsBehind
behind_none = tt

-- as many identifiers as names
pub behind_len : (before names idents : List (List ℕ)) → AreIdentsBehind before names idents → length idents ≡ length names
unfolding AreIdentsBehind
behind_len before [] [] h = refl
behind_len before [] (ident ∷ idents) h = absurd h
behind_len before (name ∷ names) [] h = absurd h
behind_len before (name ∷ names) (ident ∷ idents) h = ap suc (behind_len (before ++ ident ∷ []) names idents h.1)

-- one more at the end
pub behind_more : (before names idents : List (List ℕ)) (name ident : List ℕ) → AreIdentsBehind before names idents → IsIdentFor (before ++ idents) name ident → AreIdentsBehind before (names ++ name ∷ []) (idents ++ ident ∷ [])
unfolding AreIdentsBehind
behind_more before [] [] name ident h fits = (subst (λ l. IsIdentFor l name ident) (append-nil before) fits, tt)
behind_more before [] (other ∷ idents) name ident h fits = absurd h
behind_more before (other ∷ names) [] name ident h fits = absurd h
behind_more before (first ∷ names) (other ∷ idents) name ident h fits =
    (h.0, behind_more (before ++ other ∷ []) names idents name ident h.1 (subst (λ l. IsIdentFor l name ident) (sym (append_assoc before (other ∷ []) idents)) fits))

-- what is behind a borrow
abbrev pub lent : Bor (List ℕ) → List ℕ
lent name = name.now

abbrev pub seen : List (Bor (List ℕ)) → List (List ℕ)
seen = map lent

-- the identifiers of the names of the first items, of which no two are alike
pub record AreFirst {X : Type 0} (name_of : X → List ℕ) (items : List X) (count : ℕ) (idents : List (List ℕ)) : Type 0 where
  pub apart : AreApart idents
  pub each : AreIdentsBehind [] (map name_of (take count items)) idents

module _ {X : Type 0} (name_of : X → List ℕ) (items : List X) where
  pub first_none : (idents : List (List ℕ)) → idents ≡ [] → AreFirst name_of items 0 idents
  first_none idents none = subst (AreFirst name_of items 0) (sym none) (record { apart = apart_none; each = behind_none })

  pub first_more : (count : ℕ) (d : X) (name : List ℕ) (idents new : List (List ℕ)) (ident : List ℕ) → count < length items → name ≡ name_of (get_or items count d) → AreFirst name_of items count idents
      → IsIdentFor idents name ident → is_alike_any ident idents ≡ false → new ≡ idents ++ ident ∷ [] → AreFirst name_of items (count + 1) new
  first_more count d name idents new ident within is before fits fresh pushed = record {
    apart = subst AreApart (sym pushed) (apart_more idents ident before.apart fresh);
    each = subst (AreIdentsBehind [] (map name_of (take (count + 1) items))) (sym pushed)
        (subst (λ l. AreIdentsBehind [] l (idents ++ ident ∷ [])) (sym more) (behind_more [] (map name_of (take count items)) idents name ident before.each fits));
  }
    where
      more : map name_of (take (count + 1) items) ≡ map name_of (take count items) ++ name ∷ []
      more = ap (map name_of) (take_more items count d within) ∙ (map-append name_of (take count items) (get_or items count d ∷ []) ∙ ap (λ y. map name_of (take count items) ++ y ∷ []) (sym is))

  pub first_all : (count : ℕ) (idents : List (List ℕ)) → length items ≤ count → AreFirst name_of items count idents → AreIdents (map name_of items) idents
  first_all count idents past are =
      let each : AreIdentsBehind [] (map name_of items) idents = subst (λ l. AreIdentsBehind [] (map name_of l) idents) (take_all count items past) are.each in
      record { len = behind_len [] (map name_of items) idents each; apart = are.apart; each = each }
