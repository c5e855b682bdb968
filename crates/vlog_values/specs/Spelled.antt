-- The literal that a text is the normal spelling of: what is asked of it, and the same as a function (IEEE 1364-2005, 3.5.1).
use Rattle.std.specs.Prelude.{◌≡◌, ℕ, ◌^◌, Bool, true, false, ◌&&◌, ◌||◌, ◌==◌, nat_eq, nat_le, nat_lt, if◌then◌else◌, List, [], ◌∷◌, length, Option, Some, None, option_map, ℤ, pos, negsuc}
use Rattle.std.specs.List.{list_all}
use Rattle.std.specs.Option.{option_and_then}
use Rattle.nl_base.specs.RangeForm.{cut_at_first, spelled_index}
use Rattle.vlog_values.specs.Values.{IsLiteral}
use Rattle.vlog_values.specs.Bits.{based_length, decimal_value, is_digit, is_open}
use Rattle.vlog_values.specs.Spelling.{literal_spelling}
use Rattle.vlog_values.specs.declared.literal.Base.{Base}
use Rattle.vlog_values.specs.declared.literal.Base.TheVariants.{Binary, Octal, Decimal, Hex}
use Rattle.vlog_values.specs.declared.literal.Based.{Based}
use Rattle.vlog_values.specs.declared.literal.Literal.{Literal}

-- the text is the normal spelling of the literal, and a text can have the literal
pub record IsSpelling (text : List ℕ) (literal : Literal) : Type 0 where
  pub literal_is : IsLiteral literal
  pub text_is : literal_spelling literal ≡ text

-- a number, where it is below 2 ^ 128
abbrev pub below_128 : ℕ → Option ℕ
below_128 n = if nat_lt n (2 ^ 128) then Some n else None

-- decimal digits whose value is below 2 ^ 128
abbrev pub is_number : List ℕ → Bool
is_number digits = list_all (is_digit Decimal) digits && nat_lt (decimal_value digits) (2 ^ 128)

-- one `x`, `z` or `?`
abbrev pub is_one_open : List ℕ → Bool
is_one_open [] = false
is_one_open (c ∷ rest) = nat_eq (length rest) 0 && is_open c

-- whether these are digits as they are spelled in the base
unfoldable pub are_digits : Base → List ℕ → Bool
are_digits base [] = false
are_digits Binary (c ∷ rest) = list_all (is_digit Binary) (c ∷ rest)
are_digits Octal (c ∷ rest) = list_all (is_digit Octal) (c ∷ rest)
are_digits Decimal (c ∷ rest) = is_one_open (c ∷ rest) || is_number (c ∷ rest)
are_digits Hex (c ∷ rest) = list_all (is_digit Hex) (c ∷ rest)

-- the base that a small letter names
abbrev pub base_named : ℕ → Option Base
base_named c = if c == 98 then Some Binary else (if c == 111 then Some Octal else (if c == 100 then Some Decimal else (if c == 104 then Some Hex else None)))

-- the based literal, where its digits are spelled and it is short enough
abbrev pub checked : Based → Option Based
checked based = if are_digits based.base based.digits && nat_le (based_length based) 131072 then Some based else None

-- the based literal of a letter and digits
unfoldable pub lettered : Bool → List ℕ → Option Based
lettered signed [] = None
lettered signed (letter ∷ digits) = option_and_then (λ base. checked (record { signed = signed; base = base; digits = digits })) (base_named letter)

-- the based literal that these bytes spell behind the `'`
unfoldable pub spelled_based : List ℕ → Option Based
spelled_based [] = None
spelled_based (c ∷ rest) = if c == 115 then lettered true rest else lettered false (c ∷ rest)

-- a size of 1 to 65,536
abbrev pub within_sizes : ℤ → Option ℕ
within_sizes (pos n) = if nat_le 1 n && nat_le n 65536 then Some n else None
within_sizes (negsuc n) = None

-- the size of which the bytes are the decimal text
unfoldable pub spelled_size : List ℕ → Option ℕ
spelled_size bytes = option_and_then within_sizes (spelled_index bytes)

-- the literal of a size and a based literal
abbrev pub sized : List ℕ × List ℕ → Option Literal
sized sides = option_and_then (λ size. option_map (λ based. record { size = size; based = based }) (spelled_based sides.1)) (spelled_size sides.0)

-- the literal of which the text is the normal spelling
unfoldable pub spelled_literal : List ℕ → Option Literal
spelled_literal text = option_and_then sized (cut_at_first 39 text)
