-- The values of numbers and reals (IEEE 1364-2005, 3.5).
use Rattle.std.specs.Prelude.{ℕ, ◌+◌, ◌-◌, ◌*◌, ◌^◌, ℤ, pos, neg_ℤ, Bool, true, false, not, ◌==◌, nat_lt, nat_le, if◌then◌else◌, fold, take, drop, List, [], ◌∷◌, Option, Some, None}
use Rattle.std.specs.Char.{is_ascii_digit}
use Rattle.std.specs.List.{prefix_len}
use Rattle.nl_base.specs.declared.number.Scaled.{Scaled}
use Rattle.vlog_tokens.specs.Phases.{is_mark}

-- the value of decimal digits to which one more byte comes; a byte that is no digit changes nothing
abbrev pub next_decimal : ℕ → ℕ → ℕ
next_decimal n b = if is_ascii_digit b then 10 * n + (b - 48) else n

-- the value of the decimal digits among some bytes
unfoldable pub decimal_value : List ℕ → ℕ
decimal_value bs = fold next_decimal 0 bs

abbrev pub next_count : ℕ → ℕ → ℕ
next_count n b = if is_ascii_digit b then n + 1 else n

-- how many decimal digits there are among some bytes
unfoldable pub digit_count : List ℕ → ℕ
digit_count bs = fold next_count 0 bs

-- a number, where it is below 2 ^ 128
abbrev pub below_128 : ℕ → Option ℕ
below_128 n = if nat_lt n (2 ^ 128) then Some n else None

-- the number of this sign and absolute value, where that is below 2 ^ 63
abbrev pub signed_number : Bool → ℕ → Option ℤ
signed_number negative magnitude = if nat_lt magnitude (2 ^ 63) then Some (if negative then neg_ℤ (pos magnitude) else pos magnitude) else None

-- an exponent of this sign and absolute value, less so many
abbrev pub lowered : Bool → ℕ → ℕ → Option ℤ
lowered true magnitude places = signed_number true (magnitude + places)
lowered false magnitude places = if nat_le places magnitude then signed_number false (magnitude - places) else signed_number true (places - magnitude)

-- the byte is not the `e` of an exponent
abbrev pub is_no_mark : ℕ → Bool
is_no_mark b = not (is_mark b)

-- the byte is not the point of a real
abbrev pub is_no_point : ℕ → Bool
is_no_point b = not (b == 46)

-- the part of a real before its `e`, and that from the `e` on
abbrev pub before_mark : List ℕ → List ℕ
before_mark text = take (prefix_len is_no_mark text) text

abbrev pub from_mark : List ℕ → List ℕ
from_mark text = drop (prefix_len is_no_mark text) text

-- the digits after the point
abbrev pub after_point : List ℕ → List ℕ
after_point text = drop (prefix_len is_no_point text) text

-- whether the byte after an `e` is `-`
abbrev pub is_negative : List ℕ → Bool
is_negative (mark ∷ sign ∷ digits) = sign == 45
is_negative (mark ∷ []) = false
is_negative [] = false

-- a number's value
unfoldable pub number_of : List ℕ → Option ℤ
number_of text = signed_number false (decimal_value text)

-- a real's exponent: the written one, or 0, less the number of digits after the point
unfoldable pub exponent_of : List ℕ → List ℕ → Option ℤ
exponent_of before exponent = lowered (is_negative exponent) (decimal_value exponent) (digit_count (after_point before))

abbrev pub scaled_by : Option ℤ → Option ℤ → Option Scaled
scaled_by (Some mantissa) (Some exponent) = Some (record { mantissa = mantissa; exponent = exponent })
scaled_by (Some mantissa) None = None
scaled_by None exponent = None

-- a real's value: the mantissa is that of all digits before the `e`
unfoldable pub real_of : List ℕ → Option Scaled
real_of text = scaled_by (number_of (before_mark text)) (exponent_of (before_mark text) (from_mark text))
