-- The digits of a based literal without a sign letter that are next, where the bytes that are held show them and their end.
use Rattle.std.specs.Prelude.{ℕ, ◌+◌, false, ◌==◌, nat_le, if◌then◌else◌, List, [], ◌∷◌, take, drop, length, slice_index, Option, Some, None}
use Rattle.std.specs.List.{prefix_len}
use Rattle.nl_bytes.specs.Bytes.{Window}
use Rattle.nl_bytes.specs.Classes.{is_based_byte}
use Rattle.vlog_values.specs.declared.literal.Base.{Base}
use Rattle.vlog_tokens.specs.declared.token.VToken.{VToken}
use Rattle.vlog_tokens.specs.declared.token.VToken.TheVariants.{Based}
use Rattle.vlog_tokens.specs.Held.{is_near, past}
use Rattle.vlog_tokens.specs.Items.{has_value}
use Rattle.vlog_tokens.specs.Phases.{is_digit, base_of}

-- the token that such digits of a base are
abbrev pub digits_token : Base → List ℕ → VToken
digits_token base digits = Based (record { signed = false; base = base; digits = digits })

-- the base whose letter stands behind a `'` at the front of some bytes
abbrev pub front_base : List ℕ → Option Base
front_base [] = None
front_base (b ∷ []) = None
front_base (b ∷ letter ∷ bs) = if b == 39 then base_of letter else None

-- n digits, where the byte behind them is there and ends them; 0 where not
abbrev pub digits_by : List ℕ → ℕ → ℕ
digits_by bs n = if nat_le (length bs) n then 0 else (if is_based_byte (slice_index bs n) then 0 else n)

-- how many digits of a base are at the front, where their end is there; 0 where not
unfoldable pub digits_length : Base → List ℕ → ℕ
digits_length base bs = digits_by bs (prefix_len (is_digit base) bs)

-- the base of the literal that is next with no white space before it, where its `'` and its letter are held
unfoldable pub held_base : Window → Option Base
held_base w = if is_near w then front_base w.held else None

-- digits that have a value; no bytes where they have none
abbrev pub with_value : Base → List ℕ → List ℕ
with_value base digits = if has_value base digits then digits else []

-- the digits behind that letter, where they have a value and their end is held; no bytes where not
unfoldable pub held_digits : Base → Window → List ℕ
held_digits base w = with_value base (take (digits_length base (drop 2 w.held)) (drop 2 w.held))

-- what is held behind the `'`, the letter and so many digits
abbrev pub past_digits : ℕ → Window → Window
past_digits count w = past (count + 2) w
