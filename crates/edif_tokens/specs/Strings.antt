-- Strings, from the byte after the first quote on.
use Rattle.std.specs.Prelude.{◌≡◌, ℕ, ◌+◌, ◌-◌, ◌*◌, ◌<◌, ◌≤◌, Bool, true, false, ◌&&◌, ◌==◌, nat_lt, nat_le, if◌then◌else◌, List, [], ◌∷◌, ◌++◌, length, Option, Some, None, Result, Ok, OnOk, IfOk, IfSome, IsErrOf}
use Rattle.std.specs.Char.{is_ascii_digit}
use Rattle.nl_base.specs.declared.fault.Reason.TheVariants.{EndOfInput, BadByte, BadEscape, TokenTooLong}
use Rattle.nl_bytes.specs.Classes.{is_space, is_string_byte}
use Rattle.nl_bytes.specs.Bytes.{Window, Uses, IsAhead}
use Rattle.nl_bytes.specs.declared.halt.Halt.{Halt}
use Rattle.nl_bytes.specs.declared.halt.Halt.TheVariants.{TooLong, Failed}
use Rattle.nl_bytes.specs.declared.bytes.TheConstants.{LIMIT}
use Rattle.nl_bytes.specs.Flaws.{Piece, Flaw, flaw}

-- where a byte of a string stands: among the parts; in an escape, whose `%` has so many bytes of the token before it, after
-- a code or with none yet; in a code, with its value so far
pub data Within : Type 0 where
  Parts : Within
  Escape : ℕ → Bool → Within
  Code : ℕ → ℕ → Within

-- a string has as many bytes by value as it may have
abbrev pub is_full : List ℕ → Bool
is_full value = nat_le 1048576 (length value)

-- what the bytes from here on make of a string that spells `value` so far, in n bytes
unfoldable pub string_at : Within → List ℕ → ℕ → List ℕ → Result (Piece (List ℕ)) Flaw
string_at Parts value n [] = flaw EndOfInput n n
string_at (Escape start coded) value n [] = flaw EndOfInput n n
string_at (Code start code) value n [] = if is_full value then flaw TokenTooLong 0 n else flaw EndOfInput n n
string_at Parts value n (b ∷ bs) =
    if b == 34 then Ok (record { value = value; count = n + 1; seen = n + 1 })
    else (if b == 37 then string_at (Escape n false) value (n + 1) bs
    else (if is_string_byte b then (if is_full value then flaw TokenTooLong 0 (n + 1) else string_at Parts (value ++ b ∷ []) (n + 1) bs)
    else flaw BadByte n (n + 1)))
string_at (Escape start coded) value n (b ∷ bs) =
    if is_space b then string_at (Escape start coded) value (n + 1) bs
    else (if is_ascii_digit b then string_at (Code start (b - 48)) value (n + 1) bs
    else (if coded && (b == 37) then string_at Parts value (n + 1) bs
    else flaw BadEscape start (n + 1)))
string_at (Code start code) value n (b ∷ bs) =
    if is_ascii_digit b then (if nat_lt 255 (10 * code + (b - 48)) then flaw BadEscape start (n + 1) else string_at (Code start (10 * code + (b - 48))) value (n + 1) bs)
    else (if is_full value then flaw TokenTooLong 0 n
    else (if is_space b then string_at (Escape start true) (value ++ code ∷ []) (n + 1) bs
    else (if b == 37 then string_at Parts (value ++ code ∷ []) (n + 1) bs
    else flaw BadEscape start (n + 1))))

-- ---- what the parts of the reader answer

-- digits were used, which take a code from `begun` to `code`
abbrev pub Digits : ℕ → List ℕ → ℕ → Type 0
Digits begun used code = (start n : ℕ) (value rest : List ℕ) → string_at (Code start begun) value n (used ++ rest) ≡ string_at (Code start code) value (n + length used) rest

-- a code was read: its value, before a byte that is no digit, or none, before the digit that takes it above 255
abbrev pub EndsCode : ℕ → Option ℕ → Option ℕ → Type 0
EndsCode code (Some c) next = (c ≡ code) × IfSome next (λ b. is_ascii_digit b ≡ false)
EndsCode code None None = ⊥
EndsCode code None (Some b) = (is_ascii_digit b ≡ true) × (255 < 10 * code + (b - 48))

pub record Codes (begun : ℕ) (old new : Window) (left left' : Option (List ℕ)) (result : Result (Option ℕ) Halt) : Type 0 where
  pub used : List ℕ
  pub code : ℕ
  pub uses : Uses old new left left' used
  pub digits : Digits begun used code
  pub ends : IfOk result (λ c. (next : Option ℕ) × IsAhead new left' next × EndsCode code c next)
  pub within : OnOk result (new.place.offset ≤ LIMIT)
  pub too_long : IsErrOf result TooLong → LIMIT < new.place.offset
  -- a read that fails was asked for with no byte at hand
  pub used_up : IsErrOf result Failed → new.held ≡ []
