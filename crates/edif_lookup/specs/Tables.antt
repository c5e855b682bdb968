-- What the look-up tables hold.
use Rattle.std.specs.Prelude.{◌≡◌, ℕ, Bool, true, false, cond, List, [], ◌∷◌, map, Option, Some, None}
use Rattle.std.specs.List.{filter}
use Rattle.std.specs.Borrow.{Bor}
use Rattle.indexmap.specs.IndexMap.{IndexMap, get_by}
use Rattle.nl_base.specs.Case.{small, same_bytes}
use Rattle.edif_lookup.specs.Candidates.{candidates}
use Rattle.edif_lookup.specs.declared.definitions.Alike.{Alike}
use Rattle.edif_lookup.specs.declared.definitions.Meaning.{Meaning}
use Rattle.edif_lookup.specs.declared.definitions.Meaning.TheVariants.{Nothing, One, Several}
use Rattle.edif_lookup.specs.declared.keys.Folded.{Folded}

-- entries as they are written: a number and a spelling
abbrev pub written : List (ℕ × Bor (List ℕ)) → List (ℕ × List ℕ)
written = map (λ entry. (entry.0, entry.1.now))

abbrev pub first_number : List (ℕ × List ℕ) → Option ℕ
first_number [] = None
first_number (entry ∷ rest) = Some entry.0

-- the entries with this spelling
abbrev pub spelled_so : List ℕ → List (ℕ × List ℕ) → List (ℕ × List ℕ)
spelled_so spelling = filter (λ entry. same_bytes entry.1 spelling)

-- the entries with this spelling in small letters
abbrev pub small_so : List ℕ → List (ℕ × List ℕ) → List (ℕ × List ℕ)
small_so spelling = filter (λ entry. same_bytes (map small entry.1) spelling)

-- the table has at each spelling the number of the first entry with it
abbrev pub HoldsSpellings : {S : Type 0} → List (ℕ × List ℕ) → IndexMap (Bor (List ℕ)) ℕ S → Type 0
HoldsSpellings entries table = (spelling : List ℕ) → get_by (λ key. same_bytes spelling key.now) table ≡ first_number (spelled_so spelling entries)

-- the number of the first of some entries, and whether there are more
abbrev pub summary : List (ℕ × List ℕ) → Option Alike
summary [] = None
summary (one ∷ []) = Some (record { first = one.0; more = false })
summary (one ∷ (two ∷ rest)) = Some (record { first = one.0; more = true })

-- those definitions, and one more
abbrev pub one_more : Option Alike → ℕ → Alike
one_more None number = record { first = number; more = false }
one_more (Some alike) number = record { first = alike.first; more = true }

-- what candidates mean
abbrev pub meant_by : {A : Type 0} → List (ℕ × A) → Meaning
meant_by [] = Nothing
meant_by (one ∷ []) = One one.0
meant_by (one ∷ (two ∷ rest)) = Several

-- what a spelling means among definitions
abbrev pub meaning : List (ℕ × List ℕ) → List ℕ → Meaning
meaning definitions spelling = meant_by (candidates (λ name. name) definitions spelling)

-- what a summary means
abbrev pub meant_in : Option Alike → Meaning
meant_in None = Nothing
meant_in (Some alike) = cond alike.more Several (One alike.first)

-- what the table has at a spelling in small letters
abbrev pub at_small : {S : Type 0} → List ℕ → IndexMap Folded Alike S → Option Alike
at_small spelling table = get_by (λ key. same_bytes spelling (map small key.bytes.now)) table

-- the table has at each spelling in small letters the summary of the entries with it
abbrev pub HoldsSmall : {S : Type 0} → List (ℕ × List ℕ) → IndexMap Folded Alike S → Type 0
HoldsSmall entries table = (spelling : List ℕ) → at_small spelling table ≡ summary (small_so spelling entries)

-- whether there are several
abbrev pub is_several : Option Alike → Bool
is_several None = false
is_several (Some alike) = alike.more

-- the definition with this number, or where there is none, one of several
abbrev pub spelled_or_several : Option ℕ → Meaning
spelled_or_several None = Several
spelled_or_several (Some number) = One number

-- the tables of entries; that of the spellings holds where several entries are alike up to case
pub record HasTables {S T : Type 0} (entries : List (ℕ × List ℕ)) (by_spelling : IndexMap (Bor (List ℕ)) ℕ S) (by_small : IndexMap Folded Alike T) : Type 0 where
  pub smalls : HoldsSmall entries by_small
  pub spellings : (spelling : List ℕ) → is_several (at_small spelling by_small) ≡ true → HoldsSpellings entries by_spelling

-- definitions by their numbers and names
abbrev pub named : {A : Type 0} → (A → List ℕ) → List (ℕ × A) → List (ℕ × List ℕ)
named name = map (λ definition. (definition.0, name definition.1))
