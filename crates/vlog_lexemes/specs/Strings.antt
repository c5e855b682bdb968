-- The parts of strings: bytes that stand for themselves, and escapes (IEEE 1364-2005, 3.6).
use Rattle.std.specs.Prelude.{◌≡◌, ⊤, ℕ, ◌+◌, ◌-◌, ◌*◌, ◌<◌, ◌≤◌, fold, List, [], ◌∷◌, ◌++◌, length, IsTrue, IsFalse}
use Rattle.std.specs.List.{AllByRecursion, flat_map}
use Rattle.nl_bytes.specs.Classes.{is_verilog_string_byte}
use Rattle.vlog_tokens.specs.Strings.{is_octal}

-- how many bytes a string may have by value
abbrev pub MOST : ℕ
MOST = 1048576

-- A part of a string: a byte that stands for itself; a byte behind a `\` and the byte that they
-- stand for; or octal digits behind a `\`.
pub data Part : Type 0 where
  Plain : ℕ → Part
  Escaped : ℕ → ℕ → Part
  Coded : List ℕ → Part

-- `\n`, `\t`, `\\` and `\"`
pub data StandsFor : ℕ → ℕ → Type 0 where
  line_feed : StandsFor 110 10
  tab : StandsFor 116 9
  backslash : StandsFor 92 92
  quote : StandsFor 34 34

-- the number of octal digits
abbrev pub octal_value : List ℕ → ℕ
octal_value digits = fold (λ n d. 8 * n + (d - 48)) 0 digits

-- an octal digit does not come first
abbrev pub NoOctal : List ℕ → Type 0
NoOctal [] = ⊤
NoOctal (b ∷ bs) = IsFalse (is_octal b)

-- one to three octal digits before what follows, as many as there are, with the number of a byte
pub record IsCode (digits rest : List ℕ) : Type 0 where
  pub some : 0 < length digits
  pub most : length digits ≤ 3
  pub each : AllByRecursion (λ b. IsTrue (is_octal b)) digits
  pub all : length digits < 3 → NoOctal rest
  pub byte : octal_value digits ≤ 255

abbrev pub IsPart : Part → List ℕ → Type 0
IsPart (Plain b) rest = IsTrue (is_verilog_string_byte b)
IsPart (Escaped b c) rest = StandsFor b c
IsPart (Coded digits) rest = IsCode digits rest

abbrev pub part_bytes : Part → List ℕ
part_bytes (Plain b) = b ∷ []
part_bytes (Escaped b c) = 92 ∷ b ∷ []
part_bytes (Coded digits) = 92 ∷ digits

abbrev pub part_value : Part → List ℕ
part_value (Plain b) = b ∷ []
part_value (Escaped b c) = c ∷ []
part_value (Coded digits) = octal_value digits ∷ []

abbrev pub parts_bytes : List Part → List ℕ
parts_bytes parts = flat_map part_bytes parts

-- what parts spell
abbrev pub parts_value : List Part → List ℕ
parts_value parts = flat_map part_value parts

-- parts of a string before what follows
abbrev pub AreParts : List Part → List ℕ → Type 0
AreParts [] rest = ⊤
AreParts (p ∷ ps) rest = IsPart p (parts_bytes ps ++ rest) × AreParts ps rest

-- a string: a quote, parts, a quote
pub record IsString (bytes value : List ℕ) : Type 0 where
  pub parts : List Part
  pub spelled : bytes ≡ 34 ∷ (parts_bytes parts ++ 34 ∷ [])
  pub each : AreParts parts (34 ∷ [])
  pub means : value ≡ parts_value parts
