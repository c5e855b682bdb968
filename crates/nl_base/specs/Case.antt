-- Texts that are alike up to case (EDIF 2 0 0: identifiers and keywords do not tell capital letters from small ones).
use Rattle.std.specs.Prelude.{ℕ, Bool, List, map}
use Rattle.std.specs.Str.{bytes_eq}
use Rattle.std.specs.Char.{to_ascii_lowercase}

-- a byte, one of the 26 ASCII capital letters made small
abbrev pub small : ℕ → ℕ
small = to_ascii_lowercase

-- whether two texts have the same bytes
abbrev pub same_bytes : List ℕ → List ℕ → Bool
same_bytes = bytes_eq

-- whether two texts have the same bytes once capital letters are made small
abbrev pub same_up_to_case : List ℕ → List ℕ → Bool
same_up_to_case a b = same_bytes (map small a) (map small b)
