-- The parts of strings: bytes that stand for themselves, and escapes with the numbers of bytes
-- (EDIF 2 0 0, basic syntax).
use Rattle.std.specs.Prelude.{⊤, ℕ, ◌<◌, ◌≤◌, Bool, true, false, List, [], ◌∷◌, ◌++◌, length, map, IsTrue}
use Rattle.std.specs.Char.{is_ascii_digit}
use Rattle.std.specs.List.{AllByRecursion, flat_map}
use Rattle.nl_bytes.specs.Classes.{is_space, is_string_byte}
use Rattle.edif_tokens.specs.Spelling.{decimal_value}

-- how many bytes a string may have by value
abbrev pub MOST : ℕ
MOST = 1048576

-- all these bytes are white space: tab, line feed, carriage return or blank
abbrev pub AreWhite : List ℕ → Type 0
AreWhite bytes = AllByRecursion (λ b. IsTrue (is_space b)) bytes

-- decimal digits, at least one
abbrev pub AreDigits : List ℕ → Type 0
AreDigits bytes = (0 < length bytes) × AllByRecursion (λ b. IsTrue (is_ascii_digit b)) bytes

-- a code of an escape: the white space before it, and its digits
pub record Code : Type 0 where
  pub white : List ℕ
  pub digits : List ℕ

abbrev pub code_bytes : Code → List ℕ
code_bytes c = c.white ++ c.digits

abbrev pub code_value : Code → ℕ
code_value c = decimal_value c.digits

-- a code is the number of a byte
abbrev pub IsCode : Code → Type 0
IsCode c = AreWhite c.white × AreDigits c.digits × (code_value c ≤ 255)

-- codes, which white space separates
abbrev pub AreCodes : List Code → Type 0
AreCodes [] = ⊤
AreCodes (c ∷ cs) = IsCode c × AllByRecursion (λ d. IsCode d × (0 < length d.white)) cs

abbrev pub codes_bytes : List Code → List ℕ
codes_bytes codes = flat_map code_bytes codes

abbrev pub codes_value : List Code → List ℕ
codes_value codes = map code_value codes

-- a part of a string: a byte that stands for itself, or an escape with its codes and the white
-- space behind them
pub data Part : Type 0 where
  Plain : ℕ → Part
  Escaped : List Code → List ℕ → Part

-- an escape stands between two `%` and has at least one code
abbrev pub IsPart : Part → Type 0
IsPart (Plain b) = IsTrue (is_string_byte b)
IsPart (Escaped codes white) = (0 < length codes) × AreCodes codes × AreWhite white

abbrev pub part_bytes : Part → List ℕ
part_bytes (Plain b) = b ∷ []
part_bytes (Escaped codes white) = 37 ∷ (codes_bytes codes ++ (white ++ 37 ∷ []))

abbrev pub part_value : Part → List ℕ
part_value (Plain b) = b ∷ []
part_value (Escaped codes white) = codes_value codes

abbrev pub AreParts : List Part → Type 0
AreParts parts = AllByRecursion IsPart parts

abbrev pub parts_bytes : List Part → List ℕ
parts_bytes parts = flat_map part_bytes parts

-- what parts spell
abbrev pub parts_value : List Part → List ℕ
parts_value parts = flat_map part_value parts

-- ---- strings that have not ended

-- What may stand behind the first quote of a string before it ends: whole parts; parts and an
-- escape, with its codes and the white space behind them; or parts and an escape whose last code
-- may go on.
pub data Front : Type 0 where
  Between : List Part → Front
  Escaping : List Part → List Code → List ℕ → Front
  Coding : List Part → List Code → Code → Front

abbrev pub is_some : {A : Type 0} → List A → Bool
is_some [] = false
is_some (x ∷ xs) = true

-- white space separates what follows from the codes before it, where there are any
abbrev pub IsApart : List Code → List ℕ → Type 0
IsApart [] white = ⊤
IsApart (c ∷ cs) white = 0 < length white

abbrev pub IsFront : Front → Type 0
IsFront (Between parts) = AreParts parts
IsFront (Escaping parts codes white) =
    AreParts parts × AreCodes codes × AreWhite white × IsApart codes white
IsFront (Coding parts codes code) =
    AreParts parts × AreCodes codes × IsCode code × IsApart codes code.white

abbrev pub front_bytes : Front → List ℕ
front_bytes (Between parts) = parts_bytes parts
front_bytes (Escaping parts codes white) =
    parts_bytes parts ++ 37 ∷ (codes_bytes codes ++ white)
front_bytes (Coding parts codes code) =
    parts_bytes parts ++ 37 ∷ (codes_bytes codes ++ code_bytes code)

-- what is spelled so far
abbrev pub front_value : Front → List ℕ
front_value (Between parts) = parts_value parts
front_value (Escaping parts codes white) = parts_value parts ++ codes_value codes
front_value (Coding parts codes code) =
    (parts_value parts ++ codes_value codes) ++ code_value code ∷ []
