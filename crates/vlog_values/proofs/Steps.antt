-- Steps of loops that move a part from the front of what is left to the end of what is made.
use Rattle.std.proofs.Common.{◌≡◌, ℕ, suc, zero, ◌+◌, ◌-◌, ◌*◌, ◌<◌, ◌≤◌, ◌/◌, ◌%◌, ◌^◌, List, [], ◌∷◌, ◌++◌, drop, get_or, length, replicate, append_assoc, append-nil, fold, ap, sym, ◌∙◌, arith, refl, add-one, drop-cons}
use Rattle.vlog_values.specs.Bits.{binary_digits, bit_of, digit_value}

-- a part moves
pub moved : {A : Type 0} (made part rest : List A) {left goal : List A} → made ++ left ≡ goal → left ≡ part ++ rest → (made ++ part) ++ rest ≡ goal
moved made part rest {left} {goal} e f = append_assoc made part rest ∙ (ap (λ l. made ++ l) (sym f) ∙ e)

pub replicate_left : {A : Type 0} (n i : ℕ) (x : A) → i < n → replicate (n - i) x ≡ x ∷ replicate (n - (i + 1)) x
replicate_left {A} n i x h = let e : n - i ≡ suc (n - (i + 1)) = omega arith in ap (λ k. replicate k x) e

pub binary_left : (i n : ℕ) → 0 < i → binary_digits i n ≡ bit_of (n / 2 ^ (i - 1) % 2) ∷ binary_digits (i - 1) n
unfolding binary_digits
binary_left zero n h = absurd (omega arith)
binary_left (suc i) n h = let e : i ≡ suc i - 1 = omega arith in ap (λ k. bit_of (n / 2 ^ k % 2) ∷ binary_digits k n) e

pub binary_none : (i n : ℕ) → i ≤ 0 → binary_digits i n ≡ []
unfolding binary_digits
binary_none zero n h = refl
binary_none (suc i) n h = absurd (omega arith)

-- nothing is left
pub done : {A : Type 0} (made : List A) {left goal : List A} → made ++ left ≡ goal → left ≡ [] → made ≡ goal
done made {left} {goal} e f = sym (append-nil made) ∙ (ap (λ l. made ++ l) (sym f) ∙ e)

-- decimal digits, one after another
abbrev pub next_decimal : ℕ → ℕ → ℕ
next_decimal n c = 10 * n + digit_value c

pub decimal_grows : (n : ℕ) (digits : List ℕ) → n ≤ fold next_decimal n digits
decimal_grows n [] = omega arith
decimal_grows n (c ∷ rest) = omega (arith, decimal_grows (next_decimal n c) rest)

pub decimal_left : (n : ℕ) (digits : List ℕ) (i : ℕ) → i < length digits → fold next_decimal n (drop i digits) ≡ fold next_decimal (next_decimal n (get_or digits i 0)) (drop (i + 1) digits)
decimal_left n digits i h = ap (fold next_decimal n) (drop-cons digits i 0 h) ∙ ap (λ k. fold next_decimal (next_decimal n (get_or digits i 0)) (drop k digits)) (sym (add-one i))
