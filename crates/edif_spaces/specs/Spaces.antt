-- Name spaces of identifiers (EDIF 2 0 0, identifiers and rename).
use Rattle.std.specs.Prelude.{⊤, ◌≡◌, ℕ, ◌&&◌, ◌++◌, Bool, true, false, List, [], ◌∷◌, length, nat_le}
use Rattle.nl_base.specs.Identifiers.{is_identifier}
use Rattle.net_bits.specs.Names.{AreUsed, IsFresh, NameSet}
use Rattle.edif_meanings.specs.Apart.{AreApart, is_alike_any}

-- the stem of the identifiers that are made
abbrev pub stem : List ℕ
stem = 105 ∷ 100 ∷ []

-- whether a name is an identifier of at most 255 bytes
abbrev pub can_be_own : List ℕ → Bool
can_be_own name = nat_le (length name) 255 && is_identifier name

-- what is kept of a name space: its identifiers are told apart up to case, and those with the stem and a lesser number are used
pub record IsSpace (used : NameSet) (from : ℕ) : Type 0 where
  pub up_to_case : used.up_to_case ≡ true
  pub are_used : AreUsed used stem from

-- these identifiers, told apart up to case
abbrev pub told_apart : List (List ℕ) → NameSet
told_apart idents = record { up_to_case = true; names = idents }

-- the stem and the least number that is free behind these identifiers
abbrev pub IsMade : List (List ℕ) → List ℕ → Type 0
IsMade before ident = (number : ℕ) × IsFresh (told_apart before) stem ident number

-- the identifier of a name behind these: the name itself, where it can be one and is alike none of them, else one that is made
pub record IsIdentFor (before : List (List ℕ)) (name ident : List ℕ) : Type 0 where
  pub own : can_be_own name ≡ true → is_alike_any name before ≡ false → ident ≡ name
  pub unfit : can_be_own name ≡ false → IsMade before ident
  pub taken : is_alike_any name before ≡ true → IsMade before ident

-- the identifiers of these names behind these, one after another
unfoldable pub AreIdentsBehind : List (List ℕ) → List (List ℕ) → List (List ℕ) → Type 0
AreIdentsBehind before [] [] = ⊤
AreIdentsBehind before [] (ident ∷ idents) = ⊥
AreIdentsBehind before (name ∷ names) [] = ⊥
AreIdentsBehind before (name ∷ names) (ident ∷ idents) = IsIdentFor before name ident × AreIdentsBehind (before ++ ident ∷ []) names idents

-- identifiers for these names, each for the name at its place: no two of them are alike up to case
pub record AreIdents (names idents : List (List ℕ)) : Type 0 where
  pub len : length idents ≡ length names
  pub apart : AreApart idents
  pub each : AreIdentsBehind [] names idents
