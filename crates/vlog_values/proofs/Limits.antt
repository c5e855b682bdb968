-- Decimal digits and the limit of their value.
use Rattle.std.proofs.Common.{◌≡◌, ℕ, ◌+◌, ◌*◌, ◌^◌, ◌<◌, ◌≤◌, Bool, true, false, if◌then◌else◌, nat_lt, IsTrue, List, drop, fold, get_or, length, Some, None, refl, ap, arith}
use Rattle.std.proofs.lemmas.Bool.{lt-ltb, ltb-false, le-ltb}
use Rattle.std.proofs.Math.ListN.{drop_of_length-le}
use Rattle.std.proofs.lemmas.Bool.Decides.{nat_tests}
use Rattle.vlog_values.specs.Bits.{decimal_value, digit_value, is_digit}
use Rattle.vlog_values.specs.declared.literal.Base.TheVariants.{Decimal}
use Rattle.vlog_values.specs.Spelled.{below_128}
use Rattle.vlog_values.proofs.Steps.{decimal_grows, decimal_left, next_decimal}

pub record IsDecimalDigit (c : ℕ) : Type 0 where
  pub low : 48 ≤ c
  pub small : digit_value c < 10

pub decimal_digit : (c : ℕ) → IsTrue (is_digit Decimal c) → IsDecimalDigit c
unfolding digit_value
decimal_digit c h = record { low = grind (arith, nat_tests); small = grind (arith, nat_tests) }

no_less : (a b : ℕ) → b ≤ a → nat_lt a b ≡ false
no_less a b h = le-ltb a b h

pub over_128 : (n : ℕ) → below_128 n ≡ None → 2 ^ 128 ≤ n
over_128 n e = go (nat_lt n (2 ^ 128)) refl e
  where
    go : (t : Bool) → nat_lt n (2 ^ 128) ≡ t → (if t then Some n else None) ≡ None → 2 ^ 128 ≤ n
    go true t h = absurd cc
    go false t h = omega (arith, ltb-false n (2 ^ 128) t)

pub within_128 : (n m : ℕ) → below_128 n ≡ Some m → n ≡ m
within_128 n m e = go (nat_lt n (2 ^ 128)) refl e
  where
    go : (t : Bool) → nat_lt n (2 ^ 128) ≡ t → (if t then Some n else None) ≡ Some m → n ≡ m
    go true t h = cc
    go false t h = absurd cc

-- the digits so far give a value, and one more makes it too large
pub too_large : (value : ℕ) (digits : List ℕ) (i : ℕ) → i < length digits → fold next_decimal value (drop i digits) ≡ decimal_value digits
    → below_128 (10 * value + digit_value (get_or digits i 0)) ≡ None → nat_lt (decimal_value digits) (2 ^ 128) ≡ false
too_large value digits i h e o =
    let next = next_decimal value (get_or digits i 0) in
    let large = over_128 next o in
    no_less (decimal_value digits) (2 ^ 128) (omega (arith, large, decimal_grows next (drop (i + 1) digits), decimal_left value digits i h, e))

-- all digits are seen, and the value is small
pub small_value : (value : ℕ) (digits : List ℕ) (i : ℕ) → length digits ≤ i → fold next_decimal value (drop i digits) ≡ decimal_value digits → value < 2 ^ 128 → nat_lt (decimal_value digits) (2 ^ 128) ≡ true
small_value value digits i h e small =
    let rest : fold next_decimal value (drop i digits) ≡ value = ap (fold next_decimal value) (drop_of_length-le digits h) in
    lt-ltb (decimal_value digits) (2 ^ 128) (omega (arith, e, rest, small))
