-- The digits of a based literal and the bits that it stands for, from the left (IEEE 1364-2005, 3.5.1).
use Rattle.std.specs.Prelude.{◌≡◌, ◌⊎◌, ◌≤◌, All, ℕ, zero, suc, ◌+◌, ◌-◌, ◌*◌, ◌/◌, ◌%◌, ◌^◌, ◌<◌, Bool, nat_eq, nat_le, ◌&&◌, ◌||◌, IsTrue, List, [], ◌∷◌, ◌++◌, length, drop, replicate, flat_map, fold, if◌then◌else◌}
use Rattle.vlog_values.specs.declared.literal.Base.{Base}
use Rattle.vlog_values.specs.declared.literal.Base.TheVariants.{Binary, Octal, Decimal, Hex}
use Rattle.vlog_values.specs.declared.literal.Based.{Based}
use Rattle.vlog_values.specs.declared.literal.Bit.{Bit}
use Rattle.vlog_values.specs.declared.literal.Bit.TheVariants.{Zero, One, X, Z}
use Rattle.vlog_values.specs.declared.literal.Literal.{Literal}

-- `x`, in either case
abbrev pub is_x : ℕ → Bool
is_x c = nat_eq c 120 || nat_eq c 88

-- `z`, in either case, or `?`
abbrev pub is_z : ℕ → Bool
is_z c = nat_eq c 122 || nat_eq c 90 || nat_eq c 63

-- a digit whose bits are no number
abbrev pub is_open : ℕ → Bool
is_open c = is_x c || is_z c

abbrev pub is_within : ℕ → ℕ → ℕ → Bool
is_within low high c = nat_le low c && nat_le c high

-- the bytes that may stand among the digits of a base; in a decimal, those of a number
abbrev pub is_digit : Base → ℕ → Bool
is_digit Binary c = is_within 48 49 c || is_open c
is_digit Octal c = is_within 48 55 c || is_open c
is_digit Decimal c = is_within 48 57 c
is_digit Hex c = is_within 48 57 c || is_within 97 102 c || is_within 65 70 c || is_open c

-- the value of `0` to `9`, `a` to `f` or `A` to `F`
unfoldable pub digit_value : ℕ → ℕ
digit_value c = if nat_le 97 c then c - 87 else if nat_le 65 c then c - 55 else c - 48

-- the value of decimal digits
unfoldable pub decimal_value : List ℕ → ℕ
decimal_value digits = fold (λ n c. 10 * n + digit_value c) 0 digits

-- digits as they are spelled in a base, without `_`: one or more digits of the base; a decimal is a number below 2 ^ 128, or one `x`,
-- `z` or `?`
unfoldable pub AreDigits : Base → List ℕ → Type 0
AreDigits base [] = ⊥
AreDigits Binary (c ∷ rest) = All (λ d. IsTrue (is_digit Binary d)) (c ∷ rest)
AreDigits Octal (c ∷ rest) = All (λ d. IsTrue (is_digit Octal d)) (c ∷ rest)
AreDigits Decimal (c ∷ rest) = ((rest ≡ []) × IsTrue (is_open c)) ⊎ (All (λ d. IsTrue (is_digit Decimal d)) (c ∷ rest) × (decimal_value (c ∷ rest) < 2 ^ 128))
AreDigits Hex (c ∷ rest) = All (λ d. IsTrue (is_digit Hex d)) (c ∷ rest)

-- the length of a based literal without its size and without white space: `'`, `s` where it is signed, the base's letter, the digits
abbrev pub based_length : Based → ℕ
based_length based = (if based.signed then 3 else 2) + length based.digits

-- a based literal that a text can have: its digits are spelled, and it is not longer than a token may be
pub record IsBased (based : Based) : Type 0 where
  pub spelled : AreDigits based.base based.digits
  pub short : based_length based ≤ 131072

-- the bit that a binary digit is
abbrev pub bit_of : ℕ → Bit
bit_of n = if nat_eq n 0 then Zero else One

-- the `width` lowest binary digits of a number, from the left
unfoldable pub binary_digits : ℕ → ℕ → List Bit
binary_digits zero n = []
binary_digits (suc width) n = bit_of (n / 2 ^ width % 2) ∷ binary_digits width n

-- the `width` bits of one digit
unfoldable pub digit_bits : ℕ → ℕ → List Bit
digit_bits width c = if is_x c then replicate width X else if is_z c then replicate width Z else binary_digits width (digit_value c)

-- the bits of a decimal: one x or z, or a number below 2 ^ 128 with 128 binary digits, whose leading zeros change no bit of a literal
unfoldable pub decimal_bits : List ℕ → List Bit
decimal_bits [] = []
decimal_bits (c ∷ rest) = if is_x c then X ∷ [] else if is_z c then Z ∷ [] else binary_digits 128 (decimal_value (c ∷ rest))

-- the bits that the digits give by themselves: 1, 3 or 4 for each binary, octal or hexadecimal digit
unfoldable pub own_bits : Base → List ℕ → List Bit
own_bits Binary digits = flat_map (digit_bits 1) digits
own_bits Octal digits = flat_map (digit_bits 3) digits
own_bits Decimal digits = decimal_bits digits
own_bits Hex digits = flat_map (digit_bits 4) digits

-- what fills the left of too few bits: x or z where the leftmost bit is that, else 0
unfoldable pub fill_of : List Bit → Bit
fill_of [] = Zero
fill_of (Zero ∷ rest) = Zero
fill_of (One ∷ rest) = Zero
fill_of (X ∷ rest) = X
fill_of (Z ∷ rest) = Z

-- `size` bits: the left is filled where there are fewer, and the leftmost are dropped where there are more
unfoldable pub fitted : ℕ → List Bit → List Bit
fitted size bits = replicate (size - length bits) (fill_of bits) ++ drop (length bits - size) bits

-- the bits of a literal; its sign changes none
unfoldable pub literal_bits : Literal → List Bit
literal_bits literal = fitted literal.size (own_bits literal.based.base literal.based.digits)
