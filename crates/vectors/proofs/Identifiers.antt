-- The identifiers of generated files are identifiers.
use Rattle.std.proofs.Common.{arith, ◌≡◌, ℕ, ◌+◌, ◌%◌, ◌<◌, ◌≤◌, ◌^◌, true, List, [], ◌∷◌, ◌++◌, length, refl, ap, ◌∙◌}
use Rattle.std.specs.Prelude.{◌&&◌, IsTrue, nat_le}
use Rattle.std.specs.List.{list_all}
use Rattle.std.specs.Fmt.{decimal}
use Rattle.std.proofs.lemmas.Bool.{and_parts, leb-true}
use Rattle.std.proofs.lemmas.Bool.Decides.{nat_tests}
use Rattle.std.proofs.lemmas.Fmt.{decimal_by_steps, length-decimal-le}
use Rattle.std.proofs.lemmas.List.Folds.{list_all-append}
use Rattle.nl_base.specs.Identifiers.{is_identifier, is_short_identifier, is_word_byte}
use Rattle.vectors.specs.Cells.{cell_ident}

digit_is_word : (d : ℕ) → d < 10 → is_word_byte (48 + d) ≡ true
digit_is_word d h = grind (arith, nat_tests)

number_is_word : (n : ℕ) → n < 2 ^ 64 → list_all is_word_byte (decimal n) ≡ true
number_is_word n h = decimal_by_steps (λ n ds. list_all is_word_byte ds ≡ true) one more n h
  where
    one : (n : ℕ) → n < 10 → list_all is_word_byte ((48 + n) ∷ []) ≡ true
    one n h = ap (λ b. b && true) (digit_is_word n h)

    more : (n : ℕ) (ds : List ℕ) → 10 ≤ n → list_all is_word_byte ds ≡ true → list_all is_word_byte (ds ++ (48 + n % 10) ∷ []) ≡ true
    more n ds h rest =
        let m : n % 10 < 10 = omega arith in
        list_all-append is_word_byte ds ((48 + n % 10) ∷ []) ∙ (ap (λ b. b && (is_word_byte (48 + n % 10) && true)) rest ∙ ap (λ b. b && true) (digit_is_word (n % 10) m))

letter_then : (ds : List ℕ) → list_all is_word_byte ds ≡ true → is_identifier (99 ∷ ds) ≡ true
letter_then [] h = refl
letter_then (d ∷ ds) h = h

-- the identifier of a cell is one, and short
pub cell_spelled : (n : ℕ) → n < 2 ^ 64 → is_identifier (cell_ident n) ≡ true
cell_spelled n h = letter_then (decimal n) (number_is_word n h)

pub cell_short : (n : ℕ) → n < 2 ^ 64 → length (cell_ident n) ≤ 1024
cell_short n h = let most : length (decimal n) ≤ 20 = length-decimal-le 20 n (omega arith) (omega arith) h in omega (arith, most)

-- what a test of an identifier tells
pub identifier_spelled : (bytes : List ℕ) → IsTrue (is_short_identifier bytes) → is_identifier bytes ≡ true
identifier_spelled bytes h = (and_parts (is_identifier bytes) (nat_le (length bytes) 1024) h).0

pub identifier_short : (bytes : List ℕ) → IsTrue (is_short_identifier bytes) → length bytes ≤ 1024
identifier_short bytes h = leb-true (length bytes) 1024 (and_parts (is_identifier bytes) (nat_le (length bytes) 1024) h).1
