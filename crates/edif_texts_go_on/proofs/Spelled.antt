-- Each list of proper tokens is that of some bytes: each token as it is written, and a blank behind it.
use Rattle.std.proofs.Common.{◌≡◌, ℕ, ◌+◌, ◌<◌, ◌^◌, ◌%◌, Bool, true, false, List, [], ◌∷◌, ◌++◌, refl, arith}
use Rattle.std.specs.Prelude.{ℤ, pos, negsuc, suc, decimal, ◌&&◌, ◌||◌, ◌==◌}
use Rattle.std.specs.Fmt.{signed_decimal}
use Rattle.std.specs.List.{AllByRecursion, list_all}
use Rattle.std.proofs.lemmas.Bool.Decides.{nat_tests}
use Rattle.std.proofs.lemmas.Fmt.{decimal_by_steps}
use Rattle.nl_base.specs.Identifiers.{is_letter, is_word_byte, is_identifier}
use Rattle.edif_values.specs.declared.token.Token.{Token}
use Rattle.edif_values.specs.declared.token.Token.TheVariants.{LeftParen, RightParen, Word, Number, Str}
use Rattle.edif_values.specs.Proper.{AreBytes, IsProper}
use Rattle.edif_writer.specs.Strings.{is_plain, written, quoted}
use Rattle.edif_lexing.specs.Lexing.{Lexes}
use Rattle.edif_lexing.proofs.Lexing.{Parts, lexes_end, lexes_space, lexes_open, lexes_close, lexes_word, lexes_number}
use Rattle.edif_lexing.proofs.Quoting.{lexes_string}

-- what is written of a token, before what follows
abbrev pub token_text : Token → List ℕ → List ℕ
token_text LeftParen rest = 40 ∷ rest
token_text RightParen rest = 41 ∷ rest
token_text (Word w) rest = w ++ rest
token_text (Number z) rest = signed_decimal z ++ rest
token_text (Str s) rest = quoted s rest

-- what is written of tokens, with a blank behind each
abbrev pub tokens_text : List Token → List ℕ
tokens_text [] = []
tokens_text (x ∷ xs) = token_text x (32 ∷ tokens_text xs)

token_lexes : (x : Token) (rest : List ℕ) (ts : List Token) → IsProper x → Parts rest → Lexes rest ts → Lexes (token_text x rest) (x ∷ ts)
token_lexes LeftParen rest ts good h l = lexes_open rest ts l
token_lexes RightParen rest ts good h l = lexes_close rest ts l
token_lexes (Word w) rest ts good h l = lexes_word w rest ts good h l
token_lexes (Number z) rest ts good h l = lexes_number z rest ts good h l
token_lexes (Str s) rest ts good h l = lexes_string s rest ts good l

pub tokens_lex : (xs : List Token) → AllByRecursion IsProper xs → Lexes (tokens_text xs) xs
tokens_lex [] good = lexes_end
tokens_lex (x ∷ xs) good = token_lexes x (32 ∷ tokens_text xs) xs good.0 refl (lexes_space 32 (tokens_text xs) xs refl (tokens_lex xs good.1))

-- ---- they are bytes

pub bytes_both : (a b : List ℕ) → AreBytes a → AreBytes b → AreBytes (a ++ b)
bytes_both [] b h k = k
bytes_both (x ∷ a) b h k = (h.0, bytes_both a b h.1 k)

pub front_bytes : (a b : List ℕ) → AreBytes (a ++ b) → AreBytes a
front_bytes [] b h = tt
front_bytes (x ∷ a) b h = (h.0, front_bytes a b h.1)

and_true : (a b : Bool) → (a && b) ≡ true → (a ≡ true) × (b ≡ true)
and_true true b h = (refl, h)
and_true false b h = absurd cc

letter_small : (b : ℕ) → is_letter b ≡ true → b < 256
letter_small b h = grind (arith, nat_tests)

first_small : (b : ℕ) → (is_letter b || b == 38) ≡ true → b < 256
first_small b h = grind (arith, nat_tests)

word_byte_small : (b : ℕ) → is_word_byte b ≡ true → b < 256
word_byte_small b h = grind (arith, nat_tests)

word_bytes : (w : List ℕ) → list_all is_word_byte w ≡ true → AreBytes w
word_bytes [] h = tt
word_bytes (b ∷ w) h = let p = and_true (is_word_byte b) (list_all is_word_byte w) h in (word_byte_small b p.0, word_bytes w p.1)

identifier_bytes : (w : List ℕ) → is_identifier w ≡ true → AreBytes w
identifier_bytes [] h = tt
identifier_bytes (b ∷ []) h = (letter_small b h, tt)
identifier_bytes (b ∷ c ∷ w) h =
    let p = and_true (is_letter b || b == 38) (list_all is_word_byte (c ∷ w)) h in (first_small b p.0, word_bytes (c ∷ w) p.1)

digit_small : (d : ℕ) → d < 10 → 48 + d < 256
digit_small d h = omega (arith, h)

decimal_bytes : (n : ℕ) → n < 2 ^ 64 → AreBytes (decimal n)
decimal_bytes =
    decimal_by_steps (λ m ds. AreBytes ds) (λ m l. (digit_small m l, tt)) (λ m ds l h. bytes_both ds ((48 + m % 10) ∷ []) h (digit_small (m % 10) (omega arith), tt))

number_bytes : (z : ℤ) → IsProper (Number z) → AreBytes (signed_decimal z)
number_bytes (pos n) good = decimal_bytes n (omega (arith, good))
number_bytes (negsuc n) good = let small : suc n < 2 ^ 63 = good in (omega arith, decimal_bytes (suc n) (omega (arith, small)))

written_bytes : (coded : Bool) (s rest : List ℕ) → AreBytes s → AreBytes rest → AreBytes (written coded s rest)
unfolding written
written_bytes false [] rest all h = (omega arith, h)
written_bytes true [] rest all h = (omega arith, (omega arith, h))
written_bytes coded (b ∷ s) rest all h = by coded (is_plain b) refl (written_bytes false s rest all.1 h) (written_bytes true s rest all.1 h)
  where
    by : (coded plain : Bool) → is_plain b ≡ plain → AreBytes (written false s rest) → AreBytes (written true s rest)
        → AreBytes (written coded (b ∷ s) rest)
    by false true e on codes = rw e (all.0, on)
    by true true e on codes = rw e (omega arith, (all.0, on))
    by false false e on codes =
        rw e (omega arith, bytes_both (decimal b) (written true s rest) (decimal_bytes b (let l = all.0 in omega (arith, l))) codes)
    by true false e on codes =
        rw e (omega arith, bytes_both (decimal b) (written true s rest) (decimal_bytes b (let l = all.0 in omega (arith, l))) codes)

token_bytes : (x : Token) (rest : List ℕ) → IsProper x → AreBytes rest → AreBytes (token_text x rest)
token_bytes LeftParen rest good h = (omega arith, h)
token_bytes RightParen rest good h = (omega arith, h)
token_bytes (Word w) rest good h = bytes_both w rest (identifier_bytes w good.0) h
token_bytes (Number z) rest good h = bytes_both (signed_decimal z) rest (number_bytes z good) h
token_bytes (Str s) rest good h = (omega arith, written_bytes false s rest good.0 h)

pub tokens_bytes : (xs : List Token) → AllByRecursion IsProper xs → AreBytes (tokens_text xs)
tokens_bytes [] good = tt
tokens_bytes (x ∷ xs) good = token_bytes x (32 ∷ tokens_text xs) good.0 (omega arith, tokens_bytes xs good.1)
