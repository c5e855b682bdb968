-- What is written of tokens that bytes can spell is bytes.
use Rattle.std.proofs.Common.{◌≡◌, ℕ, suc, ◌+◌, ◌<◌, ◌≤◌, ◌^◌, ◌%◌, Bool, true, false, List, [], ◌∷◌, ◌++◌, refl, sym, subst, arith, inl, inr}
use Rattle.std.specs.Prelude.{ℤ, pos, negsuc, decimal, ◌&&◌, ◌||◌, ◌==◌, if◌then◌else◌, IsTrue}
use Rattle.std.specs.Char.{is_ascii_alphabetic}
use Rattle.std.specs.Fmt.{signed_decimal}
use Rattle.std.specs.List.{AllByRecursion, list_all}
use Rattle.std.proofs.lemmas.Bool.Decides.{nat_tests}
use Rattle.std.proofs.lemmas.Fmt.{decimal_by_steps}
use Rattle.std.proofs.lemmas.List.Elements.{recursion_from_All}
use Rattle.nl_bytes.specs.Classes.{is_name_byte, is_word_byte}
use Rattle.vlog_values.specs.Bits.{AreDigits, IsBased, is_digit, is_open}
use Rattle.vlog_values.specs.Spelling.{base_letter, based_spelling}
use Rattle.vlog_values.specs.Values.{IsName, IsNumber}
use Rattle.vlog_values.specs.declared.literal.Base.{Base}
use Rattle.vlog_values.specs.declared.literal.Base.TheVariants.{Binary, Octal, Decimal, Hex}
use Rattle.vlog_values.specs.declared.literal.Based.{Based}
use Rattle.vlog_tokens.specs.declared.token.VToken.{VToken}
use Rattle.vlog_tokens.specs.declared.token.VToken.TheVariants as t
use Rattle.vlog_tokens.specs.Proper.{AreBytes}
use Rattle.vlog_writer.specs.Spelling.{is_bare, is_simple, named, is_plain, octal, escape_of, string_byte, written}
use Rattle.vlog_lexing.specs.Tokens.{is_punctuation}
use Rattle.vlog_goes_on.specs.GoesOn.{is_operator, IsDirective, IsOfBytes}
use Rattle.vlog_goes_on.proofs.Spelled.{token_text, tokens_text}

pub bytes_both : (a b : List ℕ) → AreBytes a → AreBytes b → AreBytes (a ++ b)
bytes_both [] b h k = k
bytes_both (x ∷ a) b h k = (h.0, bytes_both a b h.1 k)

pub front_bytes : (a b : List ℕ) → AreBytes (a ++ b) → AreBytes a
front_bytes [] b h = tt
front_bytes (x ∷ a) b h = (h.0, front_bytes a b h.1)

and_true : (a b : Bool) → (a && b) ≡ true → (a ≡ true) × (b ≡ true)
and_true true b h = (refl, h)
and_true false b h = absurd cc

-- ---- names and words

first_small : (b : ℕ) → (is_ascii_alphabetic b || b == 95) ≡ true → b < 256
first_small b h = grind (arith, nat_tests)

name_byte_small : (b : ℕ) → is_name_byte b ≡ true → b < 256
name_byte_small b h = grind (arith, nat_tests)

word_byte_small : (b : ℕ) → is_word_byte b ≡ true → b < 256
word_byte_small b h = grind (arith, nat_tests)

all_bytes : (class : ℕ → Bool) → ((b : ℕ) → class b ≡ true → b < 256) → (bs : List ℕ) → list_all class bs ≡ true → AreBytes bs
all_bytes class each [] h = tt
all_bytes class each (b ∷ bs) h = let p = and_true (class b) (list_all class bs) h in (each b p.0, all_bytes class each bs p.1)

simple_bytes : (w : List ℕ) → is_simple w ≡ true → AreBytes w
unfolding is_simple
simple_bytes [] h = tt
simple_bytes (b ∷ bs) h =
    let p = and_true (is_ascii_alphabetic b || b == 95) (list_all is_name_byte bs) h in (first_small b p.0, all_bytes is_name_byte name_byte_small bs p.1)

graphic_bytes : (bs : List ℕ) → AllByRecursion (λ b. (33 ≤ b) × (b ≤ 126)) bs → AreBytes bs
graphic_bytes [] h = tt
graphic_bytes (b ∷ bs) h = (let l = h.0.1 in omega (arith, l), graphic_bytes bs h.1)

named_bytes : (n rest : List ℕ) → IsName n → AreBytes rest → AreBytes (named n rest)
named_bytes n rest good h = by (is_bare n) refl
  where
    by : (w : Bool) → is_bare n ≡ w → AreBytes (named n rest)
    by true e = rw e (bytes_both n rest (graphic_bytes n good.graphic) h)
    by false e = rw e (omega arith, bytes_both n (32 ∷ rest) (graphic_bytes n good.graphic) (omega arith, h))

-- ---- numbers

digit_small : (d : ℕ) → d < 10 → 48 + d < 256
digit_small d h = omega (arith, h)

decimal_bytes : (n : ℕ) → n < 2 ^ 64 → AreBytes (decimal n)
decimal_bytes =
    decimal_by_steps (λ m ds. AreBytes ds) (λ m l. (digit_small m l, tt)) (λ m ds l h. bytes_both ds ((48 + m % 10) ∷ []) h (digit_small (m % 10) (omega arith), tt))

number_bytes : (z : ℤ) → IsNumber z → AreBytes (signed_decimal z)
number_bytes (pos n) good = decimal_bytes n (omega (arith, good))
number_bytes (negsuc n) good = let small : suc n < 2 ^ 63 = good in (omega arith, decimal_bytes (suc n) (omega (arith, small)))

-- ---- digits of a base

binary_small : (d : ℕ) → IsTrue (is_digit Binary d) → d < 256
binary_small d h = grind (arith, nat_tests)

octal_small : (d : ℕ) → IsTrue (is_digit Octal d) → d < 256
octal_small d h = grind (arith, nat_tests)

decimal_small : (d : ℕ) → IsTrue (is_digit Decimal d) → d < 256
decimal_small d h = grind (arith, nat_tests)

hex_small : (d : ℕ) → IsTrue (is_digit Hex d) → d < 256
hex_small d h = grind (arith, nat_tests)

open_small : (d : ℕ) → IsTrue (is_open d) → d < 256
open_small d h = grind (arith, nat_tests)

digits_bytes : (base : Base) → ((d : ℕ) → IsTrue (is_digit base d) → d < 256) → (ds : List ℕ) → AllByRecursion (λ d. IsTrue (is_digit base d)) ds
    → AreBytes ds
digits_bytes base each [] h = tt
digits_bytes base each (d ∷ ds) h = (each d h.0, digits_bytes base each ds h.1)

based_bytes : (base : Base) (ds : List ℕ) → AreDigits base ds → AreBytes ds
unfolding AreDigits
based_bytes base [] h = tt
based_bytes Binary (d ∷ ds) h = digits_bytes Binary binary_small (d ∷ ds) (recursion_from_All _ (d ∷ ds) h)
based_bytes Octal (d ∷ ds) h = digits_bytes Octal octal_small (d ∷ ds) (recursion_from_All _ (d ∷ ds) h)
based_bytes Hex (d ∷ ds) h = digits_bytes Hex hex_small (d ∷ ds) (recursion_from_All _ (d ∷ ds) h)
based_bytes Decimal (d ∷ ds) h = elim h [
  | inl one ↦ subst (λ (z : List ℕ). AreBytes (d ∷ z)) (sym one.0) (open_small d one.1, tt)
  | inr all ↦ digits_bytes Decimal decimal_small (d ∷ ds) (recursion_from_All _ (d ∷ ds) all.0)
]

letter_small : (base : Base) → base_letter base < 256
letter_small Binary = omega arith
letter_small Octal = omega arith
letter_small Decimal = omega arith
letter_small Hex = omega arith

spelling_bytes : (d : Based) → IsBased d → AreBytes (based_spelling d)
unfolding based_spelling
spelling_bytes d good = (omega arith, by d.signed)
  where
    by : (s : Bool) → AreBytes ((if s then 115 ∷ [] else []) ++ base_letter d.base ∷ d.digits)
    by true = (omega arith, (letter_small d.base, based_bytes d.base d.digits good.spelled))
    by false = (letter_small d.base, based_bytes d.base d.digits good.spelled)

-- ---- strings

octal_bytes : (b : ℕ) → b < 256 → AreBytes (octal b)
octal_bytes b h = (omega (arith, h), (omega arith, (omega arith, tt)))

escape_bytes : (b : ℕ) → b < 256 → AreBytes (escape_of b)
escape_bytes b h = by_itself (b == 34 || b == 92)
  where
    by_tab : (t : Bool) → AreBytes (if t then 116 ∷ [] else octal b)
    by_tab true = (omega arith, tt)
    by_tab false = octal_bytes b h

    by_line : (t : Bool) → AreBytes (if t then 110 ∷ [] else (if b == 9 then 116 ∷ [] else octal b))
    by_line true = (omega arith, tt)
    by_line false = by_tab (b == 9)

    by_itself : (t : Bool) → AreBytes (if t then b ∷ [] else (if b == 10 then 110 ∷ [] else (if b == 9 then 116 ∷ [] else octal b)))
    by_itself true = (h, tt)
    by_itself false = by_line (b == 10)

byte_bytes : (b : ℕ) → b < 256 → AreBytes (string_byte b)
unfolding string_byte
byte_bytes b h = by (is_plain b)
  where
    by : (t : Bool) → AreBytes (if t then b ∷ [] else 92 ∷ escape_of b)
    by true = (h, tt)
    by false = (omega arith, escape_bytes b h)

written_bytes : (s rest : List ℕ) → AllByRecursion (λ b. b < 256) s → AreBytes rest → AreBytes (written s rest)
written_bytes [] rest all h = (omega arith, h)
written_bytes (b ∷ s) rest all h = bytes_both (string_byte b) (written s rest) (byte_bytes b all.0) (written_bytes s rest all.1 h)

-- ---- tokens

punctuation_small : (b : ℕ) → is_punctuation b ≡ true → b < 256
punctuation_small b h = grind (arith, nat_tests)

operator_small : (b : ℕ) → is_operator b ≡ true → b < 256
operator_small b h = grind (arith, nat_tests)

directive_bytes : (w : List ℕ) → IsDirective w → AreBytes w
directive_bytes w good =
    subst AreBytes (sym good.spelled) (omega arith, (first_small good.first good.begins, all_bytes is_word_byte word_byte_small good.rest good.follows))

token_bytes : (x : VToken) (rest : List ℕ) → IsOfBytes x → AreBytes rest → AreBytes (token_text x rest)
token_bytes (t.Name n) rest good h = named_bytes n rest good h
token_bytes (t.Keyword w) rest good h = bytes_both w rest (simple_bytes w good.simple) h
token_bytes (t.Number n) rest good h = bytes_both (signed_decimal n) rest (number_bytes n good.number) h
token_bytes (t.Real r) rest good h =
    bytes_both (signed_decimal r.mantissa) (101 ∷ (signed_decimal r.exponent ++ rest)) (number_bytes r.mantissa good.real.mantissa) (omega arith, bytes_both (signed_decimal r.exponent) rest (number_bytes r.exponent good.real.exponent) h)
token_bytes (t.Based d) rest good h = bytes_both (based_spelling d) rest (spelling_bytes d good) h
token_bytes (t.Str s) rest good h = (omega arith, written_bytes s rest good.bytes h)
token_bytes (t.Punct b) rest good h = (punctuation_small b good, h)
token_bytes t.AttrStart rest good h = (omega arith, (omega arith, h))
token_bytes t.AttrStop rest good h = (omega arith, (omega arith, h))
token_bytes (t.Symbol b) rest good h = (operator_small b good, h)
token_bytes (t.Directive w) rest good h = bytes_both w rest (directive_bytes w good) h

pub tokens_bytes : (xs : List VToken) → AllByRecursion IsOfBytes xs → AreBytes (tokens_text xs)
tokens_bytes [] good = tt
tokens_bytes (x ∷ xs) good = token_bytes x (32 ∷ tokens_text xs) good.0 (omega arith, tokens_bytes xs good.1)
