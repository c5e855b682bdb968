-- Sets of names.
use Rattle.std.specs.Prelude.{ℕ, List, [], ◌∷◌}
use Rattle.net_bits.specs.Names.{NameSet, with_name}

-- the set with these names more
abbrev pub with_names : NameSet → List (List ℕ) → NameSet
with_names set [] = set
with_names set (name ∷ names) = with_names (with_name set name) names
