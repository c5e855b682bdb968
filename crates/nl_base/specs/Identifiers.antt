-- EDIF identifiers (EDIF 2 0 0, basic syntax).
use Rattle.std.specs.Prelude.{ℕ, Bool, false, ◌&&◌, ◌||◌, ◌==◌, nat_le, List, [], ◌∷◌, length}
use Rattle.std.specs.List.{list_all}

-- a capital or small ASCII letter
abbrev pub is_letter : ℕ → Bool
is_letter b = (nat_le 65 b && nat_le b 90) || (nat_le 97 b && nat_le b 122)

-- an ASCII digit
abbrev pub is_digit : ℕ → Bool
is_digit b = nat_le 48 b && nat_le b 57

-- a byte that may stand in a word: a letter, a digit or `_`
abbrev pub is_word_byte : ℕ → Bool
is_word_byte b = is_letter b || is_digit b || (b == 95)

-- a letter, or `&` and one byte of a word; then bytes of a word
abbrev pub is_identifier : List ℕ → Bool
is_identifier [] = false
is_identifier (first ∷ []) = is_letter first
is_identifier (first ∷ (second ∷ rest)) = (is_letter first || (first == 38)) && list_all is_word_byte (second ∷ rest)

-- an identifier of at most 1,024 bytes
abbrev pub is_short_identifier : List ℕ → Bool
is_short_identifier bytes = is_identifier bytes && nat_le (length bytes) 1024
