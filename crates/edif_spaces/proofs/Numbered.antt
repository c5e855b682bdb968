-- The stem and a number are an identifier.
use Rattle.std.proofs.Common.{arith, ◌≡◌, ℕ, ◌+◌, ◌/◌, ◌%◌, ◌<◌, ◌≤◌, ◌^◌, Bool, true, false, List, [], ◌∷◌, ◌++◌, length, sym, ap, ◌∙◌}
use Rattle.std.specs.Prelude.{◌&&◌}
use Rattle.std.specs.Fmt.{decimal}
use Rattle.std.specs.List.{list_all}
use Rattle.std.proofs.lemmas.Fmt.{decimal_by_steps, decimal_digit, decimal_step, length-decimal-le}
use Rattle.std.proofs.lemmas.Nat.{mod_below}
use Rattle.std.proofs.lemmas.Bool.Decides.{nat_tests}
use Rattle.nl_base.specs.Identifiers.{is_identifier, is_word_byte}
use Rattle.edif_spaces.specs.Spaces.{stem}

word_digit : (d : ℕ) → d < 10 → is_word_byte (48 + d) ≡ true
word_digit d small = grind (arith, nat_tests)

more_digits : (ds : List ℕ) (d : ℕ) → d < 10 → list_all is_word_byte ds ≡ true → list_all is_word_byte (ds ++ (48 + d) ∷ []) ≡ true
more_digits [] d small h = ap (λ b. b && true) (word_digit d small)
more_digits (b ∷ bs) d small h = by (is_word_byte b) h (more_digits bs d small)
  where
    by : (t : Bool) → (t && list_all is_word_byte bs) ≡ true → (list_all is_word_byte bs ≡ true → list_all is_word_byte (bs ++ (48 + d) ∷ []) ≡ true) → (t && list_all is_word_byte (bs ++ (48 + d) ∷ [])) ≡ true
    by true e rest = rest e
    by false e rest = e

pub word_digits : (n : ℕ) → n < 2 ^ 64 → list_all is_word_byte (decimal n) ≡ true
word_digits = decimal_by_steps (λ n ds. list_all is_word_byte ds ≡ true) (λ n small. ap (λ b. b && true) (word_digit n small)) (λ n ds big h. more_digits ds (n % 10) (mod_below n 10 (omega arith)) h)

-- the stem and a number are an identifier of at most 22 bytes
pub made_ident : (n : ℕ) → n < 2 ^ 64 → is_identifier (stem ++ decimal n) ≡ true
made_ident n h = word_digits n h

pub made_short : (n : ℕ) → n < 2 ^ 64 → length (stem ++ decimal n) ≤ 1024
made_short n h = let e : length (decimal n) ≤ 20 = length-decimal-le 20 n (omega arith) (omega arith) h in omega (arith, e)

-- the stem and a number of one digit
pub one_spelled : (n : ℕ) (text : List ℕ) (ones : ℕ) → n < 10 → ones ≡ 48 + n → text ≡ 105 ∷ (100 ∷ (ones ∷ [])) → text ≡ stem ++ decimal n
one_spelled n text ones small is spelled = spelled ∙ ap (λ ds. 105 ∷ (100 ∷ ds)) (ap (λ d. d ∷ []) is ∙ sym (decimal_digit n small))

-- the stem and a number of two digits
pub two_spelled : (n : ℕ) (text : List ℕ) (tens ones : ℕ) → 10 ≤ n → n < 100 → tens ≡ 48 + n / 10 → ones ≡ 48 + n % 10 → text ≡ 105 ∷ (100 ∷ (tens ∷ (ones ∷ []))) → text ≡ stem ++ decimal n
two_spelled n text tens ones more fewer are_tens are_ones spelled =
    let first : n / 10 < 10 = omega (arith, fewer) in
    let digits = decimal_step n more (omega (arith, fewer)) ∙ ap (λ ds. ds ++ (48 + n % 10) ∷ []) (decimal_digit (n / 10) first) in
    spelled ∙ ap (λ ds. 105 ∷ (100 ∷ ds)) ((λ i. are_tens i ∷ (are_ones i ∷ [])) ∙ sym digits)
