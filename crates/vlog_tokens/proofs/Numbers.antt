-- The values of numbers.
use Rattle.std.proofs.Common.{◌≡◌, ℕ, ◌+◌, ◌-◌, ◌*◌, ◌^◌, ◌<◌, ◌≤◌, Bool, true, false, cond, ltb, fold, length-drop, List, [], ◌∷◌, length, get_or, drop, Some, None, refl, sym, ap, ◌∙◌, arith}
use Rattle.std.specs.Char.{is_ascii_digit}
use Rattle.std.specs.List.{prefix_len}
use Rattle.std.proofs.lemmas.Bool.{ltb-false, le-ltb, lt-ltb, le-leb}
use Rattle.std.proofs.lemmas.List.{at_drop_more, at_drop_all}
use Rattle.std.proofs.lemmas.List.Sums.{prefix_len-le-length}
use Rattle.vlog_tokens.specs.Numbers.{next_decimal, decimal_value, next_count, digit_count, below_128, signed_number, lowered, number_of, exponent_of, is_negative, after_point, is_no_mark, is_no_point}

next_grows : (n b : ℕ) → n ≤ next_decimal n b
next_grows n b = go (is_ascii_digit b)
  where
    go : (t : Bool) → n ≤ cond t (10 * n + (b - 48)) n
    go true = omega arith
    go false = omega arith

fold_grows : (n : ℕ) (bs : List ℕ) → n ≤ fold next_decimal n bs
fold_grows n [] = omega arith
fold_grows n (b ∷ bs) = omega (arith, next_grows n b, fold_grows (next_decimal n b) bs)

none_below : (n : ℕ) → None ≡ below_128 n → 2 ^ 128 ≤ n
none_below n e = go (ltb n (2 ^ 128)) refl e
  where
    go : (t : Bool) → ltb n (2 ^ 128) ≡ t → None ≡ cond t (Some n) None → 2 ^ 128 ≤ n
    go true h e = absurd cc
    go false h e = ltb-false _ _ h

some_below : (n w : ℕ) → Some w ≡ below_128 n → w ≡ n
some_below n w e = go (ltb n (2 ^ 128)) e
  where
    go : (t : Bool) → Some w ≡ cond t (Some n) None → w ≡ n
    go true e = cc
    go false e = absurd cc

-- a value that is too large stays so
pub over : (v i d : ℕ) (text : List ℕ) → i < length text → None ≡ below_128 (next_decimal v (get_or text i d)) → fold next_decimal v (drop i text) ≡ decimal_value text → None ≡ below_128 (decimal_value text)
over v i d text lt none is =
    let step : fold next_decimal v (drop i text) ≡ fold next_decimal (next_decimal v (get_or text i d)) (drop (i + 1) text) = at_drop_more (λ rest. fold next_decimal v rest) text i d lt in
    let large = none_below _ none in
    let most = fold_grows (next_decimal v (get_or text i d)) (drop (i + 1) text) in
    let n : 2 ^ 128 ≤ decimal_value text = omega (arith, large, most, step, is) in
    rw (le-ltb (decimal_value text) (2 ^ 128) n) refl

pub going : (v w i d : ℕ) (text : List ℕ) → i < length text → Some w ≡ below_128 (next_decimal v (get_or text i d)) → fold next_decimal v (drop i text) ≡ decimal_value text → fold next_decimal w (drop (i + 1) text) ≡ decimal_value text
going v w i d text lt some is =
    let step : fold next_decimal v (drop i text) ≡ fold next_decimal (next_decimal v (get_or text i d)) (drop (i + 1) text) = at_drop_more (λ rest. fold next_decimal v rest) text i d lt in
    let same : w ≡ next_decimal v (get_or text i d) = some_below (next_decimal v (get_or text i d)) w some in
    ap (λ (n : ℕ). fold next_decimal n (drop (i + 1) text)) same ∙ sym step ∙ is

pub whole : (v i : ℕ) (text : List ℕ) → length text ≤ i → v < 2 ^ 128 → fold next_decimal v (drop i text) ≡ decimal_value text → Some v ≡ below_128 (decimal_value text)
whole v i text le lt is =
    let same : v ≡ decimal_value text = sym (at_drop_all (λ rest. fold next_decimal v rest) text i le) ∙ is in
    rw (← same, lt-ltb v (2 ^ 128) lt) refl

count_next : (n b : ℕ) → next_count n b ≤ n + 1
count_next n b = go (is_ascii_digit b)
  where
    go : (t : Bool) → cond t (n + 1) n ≤ n + 1
    go true = omega arith
    go false = omega arith

count_fold : (n : ℕ) (bs : List ℕ) → fold next_count n bs ≤ n + length bs
count_fold n [] = omega arith
count_fold n (b ∷ bs) = omega (arith, count_next n b, count_fold (next_count n b) bs)

pub count_most : (bs : List ℕ) → digit_count bs ≤ length bs
unfolding digit_count
count_most bs = omega (arith, count_fold 0 bs)

pub signed_none : (negative : Bool) (n : ℕ) → 2 ^ 63 ≤ n → signed_number negative n ≡ None
signed_none negative n le = rw (le-ltb n (2 ^ 63) le) refl

pub lowered_none : (negative : Bool) (n places : ℕ) → 2 ^ 65 ≤ n → places < 2 ^ 64 → lowered negative n places ≡ None
lowered_none true n places le lt = signed_none true (n + places) (omega arith)
lowered_none false n places le lt = rw (le-leb places n (omega arith)) (signed_none false (n - places) (omega arith))

-- ---- what the parts answer

pub number_some : (text : List ℕ) (v : ℕ) → Some v ≡ below_128 (decimal_value text) → signed_number false v ≡ number_of text
unfolding number_of
number_some text v e = ap (signed_number false) (some_below (decimal_value text) v e)

pub number_none : (text : List ℕ) → None ≡ below_128 (decimal_value text) → None ≡ number_of text
unfolding number_of
number_none text e = let n = none_below (decimal_value text) e in sym (signed_none false (decimal_value text) (omega (arith, n)))

pub exponent_some : (before exponent : List ℕ) (v : ℕ) → Some v ≡ below_128 (decimal_value exponent) → lowered (is_negative exponent) v (digit_count (after_point before)) ≡ exponent_of before exponent
unfolding exponent_of
exponent_some before exponent v e = ap (λ (n : ℕ). lowered (is_negative exponent) n (digit_count (after_point before))) (some_below (decimal_value exponent) v e)

pub exponent_none : (before exponent : List ℕ) → length before < 2 ^ 64 → None ≡ below_128 (decimal_value exponent) → None ≡ exponent_of before exponent
unfolding exponent_of
exponent_none before exponent lt e =
    let n = none_below (decimal_value exponent) e in
    sym (lowered_none (is_negative exponent) (decimal_value exponent) (digit_count (after_point before)) (omega (arith, n)) (omega (arith, count_most (after_point before), drop_short (prefix_len is_no_point before) before)))
  where
    drop_short : (n : ℕ) (bs : List ℕ) → length (drop n bs) ≤ length bs
    drop_short n bs = omega (arith, length-drop n bs)

pub point_within : (bs : List ℕ) → prefix_len is_no_point bs ≤ length bs
point_within bs = prefix_len-le-length is_no_point bs

pub mark_within : (bs : List ℕ) → prefix_len is_no_mark bs ≤ length bs
mark_within bs = prefix_len-le-length is_no_mark bs
