-- Names that no identifier which is made is alike (EDIF 2 0 0, rename).
use Rattle.std.specs.Prelude.{◌≡◌, ℕ, ◌≤◌, ◌<◌, ◌+◌, ◌^◌, ◌++◌, ◌&&◌, ◌==◌, not, Bool, false, List, [], ◌∷◌}
use Rattle.nl_base.specs.Case.{small}
use Rattle.net_bits.specs.Names.{AreUsed, numbered}
use Rattle.edif_meanings.specs.Apart.{is_alike_any}
use Rattle.edif_spaces.specs.Spaces.{IsIdentFor, can_be_own, stem, told_apart}

-- whether a name begins with the stem, up to case
abbrev pub has_stem : List ℕ → Bool
has_stem [] = false
has_stem (first ∷ []) = false
has_stem (first ∷ (second ∷ rest)) = (small first == 105) && (small second == 100)

-- of the identifiers that can be made, those with a lesser number are used, and no other one
pub record IsPlain (idents : List (List ℕ)) (from : ℕ) : Type 0 where
  pub used : AreUsed (told_apart idents) stem from
  pub free : (number : ℕ) → from ≤ number → number < 2 ^ 64 → is_alike_any (numbered stem number) idents ≡ false

-- whether a name is its own identifier behind these
abbrev pub is_own_behind : List (List ℕ) → List ℕ → Bool
is_own_behind before name = can_be_own name && not (is_alike_any name before)

-- the identifier of a name behind these, and the least number that is free then
pub record IsPlainStep (idents : List (List ℕ)) (from : ℕ) (name ident : List ℕ) (next : ℕ) : Type 0 where
  pub fits : IsIdentFor idents name ident
  pub new : is_alike_any ident idents ≡ false
  pub plain : IsPlain (idents ++ ident ∷ []) next
  pub step : next ≤ from + 1
