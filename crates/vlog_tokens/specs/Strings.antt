-- Strings, from the byte after the first quote on (IEEE 1364-2005, 3.6).
use Rattle.std.specs.Prelude.{◌≡◌, ℕ, ◌+◌, ◌-◌, ◌*◌, ◌<◌, Bool, true, ◌&&◌, ◌||◌, ◌==◌, nat_lt, nat_le, if◌then◌else◌, List, [], ◌∷◌, ◌++◌, drop, length, Option, Some, None, Result, Ok, IfOk, IsErrOf}
use Rattle.nl_base.specs.declared.fault.Reason.TheVariants.{EndOfInput, BadByte, BadEscape, TokenTooLong}
use Rattle.nl_bytes.specs.Bytes.{Window, Uses, IsAhead, input}
use Rattle.nl_bytes.specs.declared.halt.Halt.{Halt}
use Rattle.nl_bytes.specs.declared.halt.Halt.TheVariants.{TooLong, Failed}
use Rattle.nl_bytes.specs.declared.bytes.TheConstants.{LIMIT}
use Rattle.nl_bytes.specs.Classes.{is_verilog_string_byte}
use Rattle.vlog_tokens.specs.declared.string.Escaped.{Escaped}
use Rattle.vlog_tokens.specs.declared.string.Escaped.TheVariants.{Stands, Octal, NoEscape, NoByte}
use Rattle.nl_bytes.specs.Flaws.{Piece, Flaw, flaw}
use Rattle.vlog_tokens.specs.Phases.{is_within}

-- an octal digit
abbrev pub is_octal : ℕ → Bool
is_octal b = is_within 48 55 b

-- what the byte after a `\` means: a byte for which the escape stands, a first octal digit, a byte of a string that makes no
-- escape, or a byte that may stand in no string
abbrev pub escaped_by : ℕ → Escaped
escaped_by b =
    if b == 110 then Stands 10
    else (if b == 116 then Stands 9
    else (if b == 92 || b == 34 then Stands b
    else (if is_octal b then Octal (b - 48)
    else (if is_verilog_string_byte b then NoEscape
    else NoByte))))

-- where a byte of a string stands: among the parts, after a `\`, or in a code with its value so far and how many more digits it
-- may have
pub data Within : Type 0 where
  Parts : Within
  Escape : Within
  Code : ℕ → ℕ → Within

-- a string has as many bytes by value as it may have
abbrev pub is_full : List ℕ → Bool
is_full value = nat_le 1048576 (length value)

-- what the next byte is to a string that spells `value` in n bytes so far; `after` tells what comes of it behind the byte
abbrev pub part_by : List ℕ → ℕ → ℕ → (Within → List ℕ → Result (Piece (List ℕ)) Flaw) → Result (Piece (List ℕ)) Flaw
part_by value n b after =
    if b == 34 then Ok (record { value = value; count = n + 1; seen = n + 1 })
    else (if b == 92 then after Escape value
    else (if is_verilog_string_byte b then (if is_full value then flaw TokenTooLong 0 (n + 1) else after Parts (value ++ b ∷ []))
    else flaw BadByte n (n + 1)))

-- the same after a `\`, whose place is one byte before
abbrev pub escape_by : Escaped → List ℕ → ℕ → (Within → List ℕ → Result (Piece (List ℕ)) Flaw) → Result (Piece (List ℕ)) Flaw
escape_by (Stands c) value n after = if is_full value then flaw TokenTooLong 0 (n + 1) else after Parts (value ++ c ∷ [])
escape_by (Octal digit) value n after = after (Code digit 2) value
escape_by NoEscape value n after = flaw BadEscape (n - 1) (n + 1)
escape_by NoByte value n after = flaw BadByte n (n + 1)

-- a code has all its digits, of which the last makes a byte too many where the string is full
abbrev pub with_code : List ℕ → ℕ → Result (Piece (List ℕ)) Flaw → Result (Piece (List ℕ)) Flaw
with_code value n rest = if is_full value then flaw TokenTooLong 0 n else rest

-- what the bytes from here on make of a string that spells `value` so far, in n bytes
unfoldable pub string_at : Within → List ℕ → ℕ → List ℕ → Result (Piece (List ℕ)) Flaw
string_at Parts value n [] = flaw EndOfInput n n
string_at Escape value n [] = flaw EndOfInput n n
string_at (Code code more) value n [] = with_code value n (flaw EndOfInput n n)
string_at Parts value n (b ∷ bs) = part_by value n b (λ next kept. string_at next kept (n + 1) bs)
string_at Escape value n (b ∷ bs) = escape_by (escaped_by b) value n (λ next kept. string_at next kept (n + 1) bs)
string_at (Code code more) value n (b ∷ bs) =
    if nat_lt 0 more && is_octal b
    then (if nat_lt 255 (8 * code + (b - 48)) then flaw BadEscape (n - (4 - more)) (n + 1) else string_at (Code (8 * code + (b - 48)) (more - 1)) value (n + 1) bs)
    else with_code value n (part_by (value ++ code ∷ []) n b (λ next kept. string_at next kept (n + 1) bs))

-- ---- what the parts of the reader answer

-- the code has all its digits
abbrev pub Closes : ℕ → ℕ → Window → Option (List ℕ) → Type 0
Closes code more w left = (value : List ℕ) (n : ℕ) (rest : List ℕ) → input w left ≡ Some rest → string_at (Code code more) value n rest ≡ with_code value n (string_at Parts (value ++ code ∷ []) n rest)

-- the next digit takes the code above 255
pub record Exceeds (code more : ℕ) (w : Window) (left : Option (List ℕ)) : Type 0 where
  pub next : ℕ
  pub ahead : IsAhead w left (Some next)
  pub some : 0 < more
  pub octal : is_octal next ≡ true
  pub above : 255 < 8 * code + (next - 48)

abbrev pub EndsCode : ℕ → ℕ → Option ℕ → Window → Option (List ℕ) → Type 0
EndsCode code more (Some c) w left = (c ≡ code) × Closes code more w left
EndsCode code more None w left = Exceeds code more w left

-- the further digits of a code were read, at most two
pub record Codes (begun : ℕ) (old new : Window) (left left' : Option (List ℕ)) (result : Result (Option ℕ) Halt) : Type 0 where
  pub used : List ℕ
  pub code : ℕ
  pub more : ℕ
  pub uses : Uses old new left left' used
  pub digits : (value : List ℕ) (n : ℕ) (rest : List ℕ) → string_at (Code begun 2) value n (used ++ rest) ≡ string_at (Code code more) value (n + length used) rest
  pub both : length used + more ≡ 2
  pub ends : IfOk result (λ c. EndsCode code more c new left')
  pub too_long : IsErrOf result TooLong → LIMIT < new.place.offset
  pub used_up : IsErrOf result Failed → new.held ≡ []

-- a string whose first quote is at its first byte
abbrev pub quoted : ℕ → List ℕ → Result (Piece (List ℕ)) Flaw
quoted n bs = string_at Parts [] (n + 1) (drop 1 bs)

-- a string that has ended
abbrev pub closed : List ℕ → ℕ → List ℕ → Result (Piece (List ℕ)) Flaw
closed value n rest = Ok (record { value = value; count = n; seen = n })
