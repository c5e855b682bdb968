-- Sets of names, and names that are not in them.
use Rattle.std.specs.Prelude.{◌≡◌, ℕ, ◌<◌, ◌++◌, List, [], ◌∷◌, Bool, true, false, IsTrue, if◌then◌else◌}
use Rattle.std.specs.Fmt.{decimal}
use Rattle.std.specs.List.{list_any}
use Rattle.nl_base.specs.Case.{same_bytes, same_up_to_case}

-- names, which are told apart byte for byte, or up to case
pub record NameSet : Type 0 where
  pub up_to_case : Bool
  pub names : List (List ℕ)

-- whether two names are alike: byte for byte, or up to case
abbrev pub alike : Bool → List ℕ → List ℕ → Bool
alike false a b = same_bytes a b
alike true a b = same_up_to_case a b

-- whether a name of the set is alike
abbrev pub has_name : NameSet → List ℕ → Bool
has_name set name = list_any (alike set.up_to_case name) set.names

-- the set with this name, which is added where none is alike
abbrev pub with_name : NameSet → List ℕ → NameSet
with_name set name = record { up_to_case = set.up_to_case; names = if has_name set name then set.names else set.names ++ name ∷ [] }

-- the stem followed by a number in decimal
abbrev pub numbered : List ℕ → ℕ → List ℕ
numbered stem number = stem ++ decimal number

-- the set has the stem followed by each lesser number
abbrev pub AreUsed : NameSet → List ℕ → ℕ → Type 0
AreUsed set stem number = (lesser : ℕ) → lesser < number → IsTrue (has_name set (numbered stem lesser))

-- the name is the stem followed by the least number whose name the set has not
pub record IsFresh (set : NameSet) (stem name : List ℕ) (number : ℕ) : Type 0 where
  pub is_name : name ≡ numbered stem number
  pub is_new : has_name set name ≡ false
  pub is_least : AreUsed set stem number
