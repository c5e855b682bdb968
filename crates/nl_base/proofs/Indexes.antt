-- The index that bytes are the decimal text of.
use Rattle.std.proofs.Common.{◌≡◌, ℕ, suc, ◌+◌, ◌%◌, ◌<◌, ◌^◌, ◌==◌, Bool, true, false, ◌&&◌, nat_lt, if◌then◌else◌, List, get_or, Option, Some, None, Result, Ok, Err, ℤ, pos, negsuc, neg_ℤ, refl, sym, ap, subst, arith}
use Rattle.std.specs.Prelude.{nat_abs}
use Rattle.std.specs.Fmt.{decimal, signed_decimal}
use Rattle.std.specs.Str.{bytes_eq}
use Rattle.std.specs.Str.Parse.{signed_digits_value}
use Rattle.std.proofs.lemmas.Fmt.{decimal_is_IsNumeral, decimal_by_steps}
use Rattle.std.proofs.lemmas.Str.Parse.{digit_at}
use Rattle.std.proofs.lemmas.Slice.Eq.{bytes_eq-Decides}
use Rattle.std.proofs.lemmas.Bool.{ne_eqb, lt-ltb, ltb-true}
use Rattle.std.proofs.lemmas.Nat.{mod_below}
use Rattle.std.proofs.Common.{w32}
use Rattle.std.specs.Str.{IsAscii, IsUtf8}
use Rattle.std.specs.Str.Parse.{ParsesSigned}
use Rattle.std.specs.Int.Signed.{mag}
use Rattle.std.proofs.lemmas.Fmt.{IsAscii-signed, parse-signed_decimal}
use Rattle.std.proofs.lemmas.Str.{IsUtf8-from_ascii}
use Rattle.std.proofs.lemmas.Int.{fits_signed_from_abs}
use Rattle.nl_base.specs.RangeForm.{IsFreeOf, spelled_index}
use Rattle.nl_base.proofs.Cuts.{free-append}

-- the number that a decimal text spells
number-decimal : (n : ℕ) → n < 2 ^ 64 → signed_digits_value 10 (decimal n) ≡ pos n
number-decimal n small =
    let numeral = decimal_is_IsNumeral n small in
    let first = digit_at (decimal n) 0 numeral.0.1 numeral.0.0 in
    let minus : (get_or (decimal n) 0 0 == 45) ≡ false = ne_eqb (get_or (decimal n) 0 0) 45 (λ e. omega (arith, first.0, first.1, e)) in
    let plus : (get_or (decimal n) 0 0 == 43) ≡ false = ne_eqb (get_or (decimal n) 0 0) 43 (λ e. omega (arith, first.0, first.1, e)) in
    rw (minus, plus) (ap pos numeral.1)

pub number-signed_decimal : (z : ℤ) → nat_abs z < 2 ^ 64 → signed_digits_value 10 (signed_decimal z) ≡ z
number-signed_decimal (pos n) small = number-decimal n small
number-signed_decimal (negsuc n) small = ap (λ m. neg_ℤ (pos m)) (decimal_is_IsNumeral (suc n) small).1

-- the same as `spelled_index` for the number of the bytes
abbrev index_as : ℤ → List ℕ → Option ℤ
index_as z bytes = if nat_lt (nat_abs z) (2 ^ 31) && bytes_eq (signed_decimal z) bytes then Some z else None

index_as-yes : (z : ℤ) (bytes : List ℕ) → nat_abs z < 2 ^ 31 → signed_decimal z ≡ bytes → index_as z bytes ≡ Some z
index_as-yes z bytes small e =
    let fits : nat_lt (nat_abs z) (2 ^ 31) ≡ true = lt-ltb (nat_abs z) (2 ^ 31) small in
    let same : bytes_eq (signed_decimal z) bytes ≡ true = (bytes_eq-Decides (signed_decimal z) bytes).1 e in
    rw (fits, same) refl

both : (a b : Bool) → (a && b) ≡ true → (a ≡ true) × (b ≡ true)
both true b e = (refl, e)
both false b e = absurd cc

spells : (z : ℤ) (bytes : List ℕ) → (nat_lt (nat_abs z) (2 ^ 31) && bytes_eq (signed_decimal z) bytes) ≡ true → (nat_abs z < 2 ^ 31) × (bytes ≡ signed_decimal z)
spells z bytes e =
    let parts = both (nat_lt (nat_abs z) (2 ^ 31)) (bytes_eq (signed_decimal z) bytes) e in
    (ltb-true (nat_abs z) (2 ^ 31) parts.0, sym ((bytes_eq-Decides (signed_decimal z) bytes).0 parts.1))

index_as-is : (v : ℤ) (bytes : List ℕ) (z : ℤ) → index_as v bytes ≡ Some z → (nat_abs z < 2 ^ 31) × (bytes ≡ signed_decimal z)
index_as-is v bytes z e = go (nat_lt (nat_abs v) (2 ^ 31) && bytes_eq (signed_decimal v) bytes) refl e
  where
    go : (t : Bool) → (nat_lt (nat_abs v) (2 ^ 31) && bytes_eq (signed_decimal v) bytes) ≡ t → (if t then Some v else None) ≡ Some z → (nat_abs z < 2 ^ 31) × (bytes ≡ signed_decimal z)
    go true t h =
        let same : v ≡ z = cc in
        subst (λ w. (nat_abs w < 2 ^ 31) × (bytes ≡ signed_decimal w)) same (spells v bytes t)
    go false t h = absurd cc

index_as-none : (v : ℤ) (bytes : List ℕ) → ((z : ℤ) → nat_abs z < 2 ^ 31 → bytes ≡ signed_decimal z → ⊥) → index_as v bytes ≡ None
index_as-none v bytes h = go (nat_lt (nat_abs v) (2 ^ 31) && bytes_eq (signed_decimal v) bytes) refl
  where
    go : (t : Bool) → (nat_lt (nat_abs v) (2 ^ 31) && bytes_eq (signed_decimal v) bytes) ≡ t → (if t then Some v else None) ≡ None
    go true t = absurd (h v (spells v bytes t).0 (spells v bytes t).1)
    go false t = refl

-- the text of an index spells it
pub spelled_index-signed_decimal : (z : ℤ) → nat_abs z < 2 ^ 31 → spelled_index (signed_decimal z) ≡ Some z
spelled_index-signed_decimal z small =
    let wide : nat_abs z < 2 ^ 64 = omega (arith, small) in
    subst (λ v. index_as v (signed_decimal z) ≡ Some z) (sym (number-signed_decimal z wide)) (index_as-yes z (signed_decimal z) small refl)

-- bytes that spell an index are its text
pub spelled_index-is : (bytes : List ℕ) (z : ℤ) → spelled_index bytes ≡ Some z → (nat_abs z < 2 ^ 31) × (bytes ≡ signed_decimal z)
spelled_index-is bytes z e = index_as-is (signed_digits_value 10 bytes) bytes z e

-- bytes that are the text of no index spell none
pub spelled_index-none : (bytes : List ℕ) → ((z : ℤ) → nat_abs z < 2 ^ 31 → bytes ≡ signed_decimal z → ⊥) → spelled_index bytes ≡ None
spelled_index-none bytes h = index_as-none (signed_digits_value 10 bytes) bytes h

-- a small absolute value in the words of std
small_mag : (z : ℤ) → nat_abs z < 2 ^ 31 → mag z < 2 ^ 63
small_mag (pos n) small = omega (arith, small)
small_mag (negsuc n) small = omega (arith, small)

-- bytes that are no UTF-8 spell none
pub spelled_index-no_utf8 : (bytes : List ℕ) → (IsUtf8 bytes → ⊥) → spelled_index bytes ≡ None
spelled_index-no_utf8 bytes h = spelled_index-none bytes (λ z small e. h (IsUtf8-from_ascii bytes (subst IsAscii (sym e) (IsAscii-signed z (small_mag z small)))))

-- bytes that std does not read as an `i32` spell none
pub spelled_index-no_parse : {E : Type 0} (bytes : List ℕ) (fault : E) → ParsesSigned w32 10 bytes (Err fault) → spelled_index bytes ≡ None
spelled_index-no_parse {E} bytes fault h = spelled_index-none bytes (λ z small e.
    let read : ◌≡◌ {A = Result ℤ E} (Err fault) (Ok z) = parse-signed_decimal w32 z bytes (Err fault) (fits_signed_from_abs w32 z small) (small_mag z small) e h in
    absurd cc)

-- decimal texts have no byte other than `-` and the digits
pub free-decimal : (byte : ℕ) → ((d : ℕ) → d < 10 → (48 + d == byte) ≡ false) → (n : ℕ) → n < 2 ^ 64 → IsFreeOf byte (decimal n)
free-decimal byte far = decimal_by_steps (λ n ds. IsFreeOf byte ds) (λ n small. (far n small, tt)) (λ n ds big h. free-append byte ds _ h (far (n % 10) (mod_below n 10 (omega arith)), tt))

pub free-signed_decimal : (byte : ℕ) → ((d : ℕ) → d < 10 → (48 + d == byte) ≡ false) → (45 == byte) ≡ false → (z : ℤ) → nat_abs z < 2 ^ 64 → IsFreeOf byte (signed_decimal z)
free-signed_decimal byte far minus (pos n) small = free-decimal byte far n small
free-signed_decimal byte far minus (negsuc n) small = (minus, free-decimal byte far (suc n) small)
