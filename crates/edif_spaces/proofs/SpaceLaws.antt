-- One more identifier in a name space.
use Rattle.std.proofs.Common.{◌≡◌, ℕ, ◌+◌, ◌<◌, get_or, length, Bool, true, false, cond, List, [], ◌∷◌, ◌++◌, refl, sym, ap, ◌∙◌, subst}
use Rattle.std.specs.Prelude.{◌||◌, IsTrue}
use Rattle.std.specs.List.{list_any}
use Rattle.std.proofs.lemmas.Bool.{false≢true}
use Rattle.std.proofs.lemmas.List.Folds.{list_any-append}
use Rattle.net_bits.specs.Names.{AreUsed, IsFresh, NameSet, alike, has_name, numbered, with_name}
use Rattle.edif_meanings.specs.Apart.{is_alike_any}
use Rattle.edif_spaces.specs.Spaces.{IsIdentFor, IsMade, IsSpace, stem}
use Rattle.edif_spaces.proofs.IdentLaws.{AreFirst, first_more}

-- a set up to case has a name where one is alike
pub has_alike : (set : NameSet) (name : List ℕ) → set.up_to_case ≡ true → has_name set name ≡ is_alike_any name set.names
has_alike set name e = ap (λ c. list_any (alike c name) set.names) e

pub or_true : (a b : Bool) → a ≡ true → (a || b) ≡ true
or_true true b h = refl
or_true false b h = absurd (false≢true h)

still_has : (set : NameSet) (name other : List ℕ) → has_name set other ≡ true → has_name (with_name set name) other ≡ true
still_has set name other h = by (has_name set name)
  where
    by : (b : Bool) → list_any (alike set.up_to_case other) (cond b set.names (set.names ++ name ∷ [])) ≡ true
    by true = h
    by false = list_any-append (alike set.up_to_case other) set.names (name ∷ []) ∙ or_true _ _ h

pub space_more : (set new : NameSet) (name : List ℕ) (from : ℕ) → new ≡ with_name set name → set.up_to_case ≡ true → AreUsed set stem from → IsSpace new from
space_more set new name from is_new e used = record {
  up_to_case = ap (λ s. s.up_to_case) is_new ∙ e;
  are_used = λ lesser below. subst (λ s. IsTrue (has_name s (numbered stem lesser))) (sym is_new) (still_has set name (numbered stem lesser) (used lesser below));
}

-- an identifier that is made in a name space of these identifiers
pub space_made : (used : NameSet) (names : List (List ℕ)) (name ident : List ℕ) (number : ℕ) → used.up_to_case ≡ true → used.names ≡ names → IsFresh used stem name number → ident ≡ name → IsMade names ident
space_made used names name ident number exact shown fresh is = (
  number,
  record {
    is_name = is ∙ fresh.is_name;
    is_new = ap (is_alike_any ident) (sym shown) ∙ (ap (λ n. is_alike_any n used.names) is ∙ (sym (has_alike used name exact) ∙ fresh.is_new));
    is_least = λ lesser below. ap (is_alike_any (numbered stem lesser)) (sym shown) ∙ (sym (has_alike used (numbered stem lesser) exact) ∙ fresh.is_least lesser below);
  },
)

-- a turn of a loop over items whose names get identifiers
pub space_turn : {X : Type 0} (name_of : X → List ℕ) (items : List X) (count : ℕ) (d : X) (name : List ℕ) (space more idents new : List (List ℕ)) (ident : List ℕ) → count < length items → name ≡ name_of (get_or items count d)
    → AreFirst name_of items count idents → space ≡ idents → IsIdentFor space name ident → is_alike_any ident space ≡ false → more ≡ space ++ ident ∷ [] → new ≡ idents ++ ident ∷ [] → AreFirst name_of items (count + 1) new × (more ≡ new)
space_turn name_of items count d name space more idents new ident within is before same fits fresh added pushed = (
  first_more name_of items count d name idents new ident within is before (subst (λ l. IsIdentFor l name ident) same fits) (subst (λ l. is_alike_any ident l ≡ false) same fresh) pushed,
  added ∙ (ap (λ l. l ++ ident ∷ []) same ∙ sym pushed),
)
