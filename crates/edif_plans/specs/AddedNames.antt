-- The names of the instances that are added for the constants (EDIF 2 0 0, instance and rename).
use Rattle.std.specs.Prelude.{⊤, ◌≡◌, ℕ, ◌++◌, true, false, List, [], ◌∷◌, map}
use Rattle.net_bits.specs.Names.{IsFresh, NameSet, has_name}
use Rattle.net_hier.specs.Constants.{ConstantNames, name_of_constant}
use Rattle.net_hier.specs.declared.cells.HInst.{HInst}
use Rattle.edif_plans.specs.declared.added.Added.{Added}

-- these names, told apart byte for byte
abbrev pub told_by_bytes : List (List ℕ) → NameSet
told_by_bytes names = record { up_to_case = false; names = names }

-- the name is the stem itself where the set has it not, else the stem and the least number that is free
pub record IsFirstFree (used : NameSet) (stem name : List ℕ) : Type 0 where
  pub own : has_name used stem ≡ false → name ≡ stem
  pub taken : has_name used stem ≡ true → (number : ℕ) × IsFresh used stem name number

-- each of these instances has the first free name with the name of its constant's cell as stem, behind these names and those of the instances before it
unfoldable pub AreNamedBehind : ConstantNames → List (List ℕ) → List Added → Type 0
AreNamedBehind names before [] = ⊤
AreNamedBehind names before (one ∷ added) =
    IsFirstFree (told_by_bytes before) (name_of_constant names one.value).cell one.name × AreNamedBehind names (before ++ one.name ∷ []) added

-- so have those that are added to a cell, behind its own instances
abbrev pub AreNamedFor : ConstantNames → List HInst → List Added → Type 0
AreNamedFor names own = AreNamedBehind names (map (λ instance. instance.name) own)
