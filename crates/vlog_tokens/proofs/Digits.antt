-- The digits of a based literal as they are scanned are digits of its base.
use Rattle.std.proofs.Common.{◌≡◌, ◌∙◌, ap, refl, ℕ, suc, ◌+◌, ◌-◌, ◌*◌, ◌^◌, ◌≤◌, Bool, true, false, not, cond, leb, eqb, ◌||◌, ◌&&◌, List, [], ◌∷◌, ◌++◌, length, fold, inl, inr, arith}
use Rattle.std.specs.Char.{is_ascii_digit}
use Rattle.std.specs.List.{list_all, filter}
use Rattle.std.proofs.lemmas.Bool.{ltb-true}
use Rattle.std.proofs.lemmas.Bool.Decides.{nat_tests}
use Rattle.std.proofs.lemmas.List.Sums.{AllPass-from_list_all}
use Rattle.vlog_values.specs.declared.literal.Base.{Base}
use Rattle.vlog_values.specs.declared.literal.Base.TheVariants.{Binary, Octal, Decimal, Hex}
use Rattle.vlog_values.specs.Bits.{AreDigits, digit_value}
use Rattle.vlog_values.specs.Bits as bits
use Rattle.vlog_tokens.specs.Numbers.{next_decimal, decimal_value}
use Rattle.vlog_tokens.specs.Phases.{is_digit, is_open}
use Rattle.vlog_tokens.specs.Items.{is_kept, has_value}
use Rattle.vlog_tokens.specs.SoFar.{may_stand, begins_kept, is_left_out}

-- ---- one digit

open_same : (b : ℕ) → is_open b ≡ true → bits.is_open b ≡ true
open_same b e = grind (arith, nat_tests)

binary_same : (b : ℕ) → is_digit Binary b ≡ true → bits.is_digit Binary b ≡ true
binary_same b e = grind (arith, nat_tests)

octal_same : (b : ℕ) → is_digit Octal b ≡ true → bits.is_digit Octal b ≡ true
octal_same b e = grind (arith, nat_tests)

decimal_same : (b : ℕ) → is_digit Decimal b ≡ true → bits.is_digit Decimal b ≡ true
decimal_same b e = e

hex_same : (b : ℕ) → is_digit Hex b ≡ true → bits.is_digit Hex b ≡ true
hex_same b e = grind (arith, nat_tests)

pub digit_same : (base : Base) (b : ℕ) → is_digit base b ≡ true → bits.is_digit base b ≡ true
digit_same Binary b e = binary_same b e
digit_same Octal b e = octal_same b e
digit_same Decimal b e = decimal_same b e
digit_same Hex b e = hex_same b e

-- no digit is a `_`
pub digit_kept : (base : Base) (b : ℕ) → is_digit base b ≡ true → is_kept b ≡ true
digit_kept Binary b e = grind (arith, nat_tests)
digit_kept Octal b e = grind (arith, nat_tests)
digit_kept Decimal b e = grind (arith, nat_tests)
digit_kept Hex b e = grind (arith, nat_tests)

pub open_kept : (b : ℕ) → is_open b ≡ true → is_kept b ≡ true
open_kept b e = grind (arith, nat_tests)

-- ---- digits with `_` among them

pub first_kept : (base : Base) (b : ℕ) → is_digit base b ≡ true → begins_kept (b ∷ []) ≡ true
first_kept base b e = digit_kept base b e

pub begins_push : (bs : List ℕ) (b : ℕ) → begins_kept bs ≡ true → begins_kept (bs ++ b ∷ []) ≡ true
begins_push [] b e = absurd cc
begins_push (c ∷ cs) b e = e

pub both : (x y : Bool) → (x && y) ≡ true → (x ≡ true) × (y ≡ true)
both true y e = (refl, e)
both false y e = absurd cc

pub all_push : (test : ℕ → Bool) (bs : List ℕ) (b : ℕ) → list_all test bs ≡ true → test b ≡ true → list_all test (bs ++ b ∷ []) ≡ true
all_push test [] b all e = rw e refl
all_push test (c ∷ cs) b all e = let parts = both (test c) (list_all test cs) all in rw (parts.0, all_push test cs b parts.1 e) refl

stands_kept : (base : Base) (b : ℕ) → may_stand base b ≡ true → is_kept b ≡ true → bits.is_digit base b ≡ true
stands_kept base b e k = go (eqb b 95) e k
  where
    plain : (x : Bool) → (x || false) ≡ true → x ≡ true
    plain true h = refl
    plain false h = h

    go : (t : Bool) → (is_digit base b || t) ≡ true → not t ≡ true → bits.is_digit base b ≡ true
    go true h l = absurd cc
    go false h l = digit_same base b (plain (is_digit base b) h)

all_kept : (base : Base) (bs : List ℕ) → list_all (may_stand base) bs ≡ true → list_all (bits.is_digit base) (filter is_kept bs) ≡ true
all_kept base [] all = refl
all_kept base (b ∷ bs) all = let parts = both (may_stand base b) (list_all (may_stand base) bs) all in go parts.0 (all_kept base bs parts.1) (is_kept b) refl
  where
    go : may_stand base b ≡ true → list_all (bits.is_digit base) (filter is_kept bs) ≡ true → (t : Bool) → is_kept b ≡ t → list_all (bits.is_digit base) (cond t (b ∷ filter is_kept bs) (filter is_kept bs)) ≡ true
    go e rest true k = rw (stands_kept base b e k, rest) refl
    go e rest false k = rest

some_kept : (bs : List ℕ) → begins_kept bs ≡ true → 1 ≤ length (filter is_kept bs)
some_kept [] e = absurd cc
some_kept (b ∷ bs) e = rw e (omega arith)

pub few_kept : (bs : List ℕ) → length (filter is_kept bs) ≤ length bs
few_kept [] = omega arith
few_kept (b ∷ bs) = go (is_kept b) (few_kept bs)
  where
    go : (t : Bool) → length (filter is_kept bs) ≤ length bs → length (cond t (b ∷ filter is_kept bs) (filter is_kept bs)) ≤ suc (length bs)
    go true h = omega (arith, h)
    go false h = omega (arith, h)

-- ---- the value of a decimal

value_digit : (c : ℕ) → bits.is_digit Decimal c ≡ true → digit_value c ≡ c - 48
unfolding digit_value
value_digit c e =
    let above : leb 97 c ≡ false = grind (arith, nat_tests) in
    let below : leb 65 c ≡ false = grind (arith, nat_tests) in
    rw (above, below) refl

value_step : (n c : ℕ) → bits.is_digit Decimal c ≡ true → 10 * n + digit_value c ≡ next_decimal n c
value_step n c e = let digit : is_ascii_digit c ≡ true = e in rw (value_digit c e, digit) refl

value_from : (n : ℕ) (ds : List ℕ) → list_all (bits.is_digit Decimal) ds ≡ true → fold (λ n c. 10 * n + digit_value c) n ds ≡ fold next_decimal n ds
value_from n [] all = refl
value_from n (c ∷ cs) all =
    let parts = both (bits.is_digit Decimal c) (list_all (bits.is_digit Decimal) cs) all in
    ap (λ m. fold (λ n c. 10 * n + digit_value c) m cs) (value_step n c parts.0) ∙ value_from (next_decimal n c) cs parts.1

value_same : (ds : List ℕ) → list_all (bits.is_digit Decimal) ds ≡ true → bits.decimal_value ds ≡ decimal_value ds
unfolding bits.decimal_value decimal_value
value_same ds all = value_from 0 ds all

-- ---- all digits

pub are_digits : (base : Base) (ds : List ℕ) → 1 ≤ length ds → list_all (bits.is_digit base) ds ≡ true → has_value base ds ≡ true → AreDigits base ds
unfolding AreDigits
are_digits base [] some all value = absurd (omega (arith, some))
are_digits Binary (c ∷ rest) some all value = AllPass-from_list_all (bits.is_digit Binary) (c ∷ rest) all
are_digits Octal (c ∷ rest) some all value = AllPass-from_list_all (bits.is_digit Octal) (c ∷ rest) all
are_digits Hex (c ∷ rest) some all value = AllPass-from_list_all (bits.is_digit Hex) (c ∷ rest) all
are_digits Decimal (c ∷ rest) some all value =
    let same = value_same (c ∷ rest) all in
    let below = ltb-true (decimal_value (c ∷ rest)) (2 ^ 128) value in
    inr (AllPass-from_list_all (bits.is_digit Decimal) (c ∷ rest) all, omega (arith, same, below))

-- the digits among such bytes are digits of the base
pub digits_kept : (base : Base) (bs : List ℕ) → begins_kept bs ≡ true → list_all (may_stand base) bs ≡ true → has_value base (filter is_kept bs) ≡ true → AreDigits base (filter is_kept bs)
digits_kept base bs begins all value = are_digits base (filter is_kept bs) (some_kept bs begins) (all_kept base bs all) value

-- ---- the one `x`, `z` or `?` of a decimal

none_kept : (bs : List ℕ) → list_all is_left_out bs ≡ true → filter is_kept bs ≡ []
none_kept [] all = refl
none_kept (b ∷ bs) all = let parts = both (is_left_out b) (list_all is_left_out bs) all in rw (parts.0, none_kept bs parts.1) refl

pub open_digits : (b : ℕ) (bs : List ℕ) → is_open b ≡ true → list_all is_left_out bs ≡ true → AreDigits Decimal (filter is_kept (b ∷ bs))
unfolding AreDigits
open_digits b bs e all = rw (open_kept b e, none_kept bs all) (inl (refl, open_same b e))
