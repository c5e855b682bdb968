-- The table by which a word is found: a word is compared with the keywords of its slot alone.
use Rattle.std.specs.Prelude.{ℕ, ◌+◌, ◌*◌, ◌%◌, List, [], ◌∷◌, length, slice_index, slice_range}
use Rattle.nl_base.specs.Case.{small}
use Rattle.edif_values.specs.declared.keyword.Keyword.{Keyword}
use Rattle.edif_keywords.specs.declared.find.TheConstants.{STARTS, BY_SLOT}

-- a word's slot, by its length and its first letter
abbrev pub slot : ℕ → ℕ → ℕ
slot count first = (count + 41 * small first) % 64

-- where the keywords of a slot begin
unfoldable pub start_at : ℕ → ℕ
start_at n = slice_index STARTS n

-- a part of the keywords in the order of their slots
unfoldable pub part : ℕ → ℕ → List Keyword
part start end = slice_range BY_SLOT start end

-- the keywords of a slot
abbrev pub of_slot : ℕ → List Keyword
of_slot n = part (start_at n) (start_at (n + 1))

-- the keywords that a word may be
unfoldable pub candidates : List ℕ → List Keyword
candidates [] = []
candidates (first ∷ rest) = of_slot (slot (length (first ∷ rest)) first)
