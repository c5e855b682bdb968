-- What the spelling of digits says of their bytes.
use Rattle.std.proofs.Common.{◌≡◌, ℕ, ◌^◌, ◌<◌, ◌≤◌, List, [], ◌∷◌, All, IsTrue, false, inl, inr, arith, get_or}
use Rattle.std.proofs.lemmas.Bool.Decides.{nat_tests}
use Rattle.vlog_values.specs.Bits.{AreDigits, decimal_value, is_digit, is_open, is_x, is_z}
use Rattle.vlog_values.specs.declared.literal.Base.TheVariants.{Binary, Octal, Decimal, Hex}

low_binary : (c : ℕ) → IsTrue (is_digit Binary c) → 48 ≤ c
low_binary c h = grind (arith, nat_tests)

low_octal : (c : ℕ) → IsTrue (is_digit Octal c) → 48 ≤ c
low_octal c h = grind (arith, nat_tests)

low_decimal : (c : ℕ) → IsTrue (is_digit Decimal c) → 48 ≤ c
low_decimal c h = grind (arith, nat_tests)

low_hex : (c : ℕ) → IsTrue (is_digit Hex c) → 48 ≤ c
low_hex c h = grind (arith, nat_tests)

pub binary_low : (digits : List ℕ) → AreDigits Binary digits → All (λ c. 48 ≤ c) digits
unfolding AreDigits
binary_low [] h = absurd h
binary_low (c ∷ rest) h = λ k d lt. low_binary _ (h k d lt)

pub octal_low : (digits : List ℕ) → AreDigits Octal digits → All (λ c. 48 ≤ c) digits
unfolding AreDigits
octal_low [] h = absurd h
octal_low (c ∷ rest) h = λ k d lt. low_octal _ (h k d lt)

pub hex_low : (digits : List ℕ) → AreDigits Hex digits → All (λ c. 48 ≤ c) digits
unfolding AreDigits
hex_low [] h = absurd h
hex_low (c ∷ rest) h = λ k d lt. low_hex _ (h k d lt)

-- a decimal that is not x or z is a number
pub record IsNumber (digits : List ℕ) : Type 0 where
  pub low : All (λ c. 48 ≤ c) digits
  pub fits : decimal_value digits < 2 ^ 128

open_first : (c : ℕ) → IsTrue (is_open c) → is_x c ≡ false → is_z c ≡ false → ⊥
open_first c h x z = cc

pub decimal_number : (digits : List ℕ) → is_x (get_or digits 0 0) ≡ false → is_z (get_or digits 0 0) ≡ false → AreDigits Decimal digits → IsNumber digits
unfolding AreDigits
decimal_number [] x z h = absurd h
decimal_number (c ∷ rest) x z (inl h) = absurd (open_first c h.1 x z)
decimal_number (c ∷ rest) x z (inr h) = record { low = λ k d lt. low_decimal _ (h.0 k d lt); fits = h.1 }
