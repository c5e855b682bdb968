-- How each token of EDIF is spelled, and what stands at the front of a text (EDIF 2 0 0, basic
-- syntax).
use Rattle.std.specs.Prelude.{◌≡◌, ⊤, ℕ, ◌<◌, ◌≤◌, ◌^◌, Bool, true, false, List, [], ◌∷◌, ◌++◌, length, IsTrue, ℤ, pos, neg_ℤ, nat_abs}
use Rattle.std.specs.Char.{is_ascii_digit}
use Rattle.nl_base.specs.Identifiers.{is_identifier}
use Rattle.nl_bytes.specs.Classes.{is_word_byte}
use Rattle.edif_tokens.specs.Spelling.{decimal_value, may_follow}
use Rattle.edif_values.specs.declared.token.Token.{Token}
use Rattle.edif_values.specs.declared.token.Token.TheVariants.{LeftParen, RightParen, Word, Number, Str}
use Rattle.edif_lexemes.specs.Strings.{MOST, AreDigits, Part, AreParts, parts_bytes, parts_value}

-- ---- one predicate for each kind of token

-- a word: a letter, or `&` and one letter, digit or `_`; then letters, digits and `_`
abbrev pub IsWord : List ℕ → Type 0
IsWord bytes = is_identifier bytes ≡ true

-- what may stand before the digits of an integer
pub data Sign : Type 0 where
  Unsigned : Sign
  Plus : Sign
  Minus : Sign

abbrev pub sign_bytes : Sign → List ℕ
sign_bytes Unsigned = []
sign_bytes Plus = 43 ∷ []
sign_bytes Minus = 45 ∷ []

abbrev pub signed : Sign → ℕ → ℤ
signed Unsigned n = pos n
signed Plus n = pos n
signed Minus n = neg_ℤ (pos n)

-- an integer: a sign or none, and decimal digits
pub record IsInteger (bytes : List ℕ) (z : ℤ) : Type 0 where
  pub sign : Sign
  pub digits : List ℕ
  pub spelled : bytes ≡ sign_bytes sign ++ digits
  pub each : AreDigits digits
  pub means : z ≡ signed sign (decimal_value digits)

-- a string: a quote, parts, a quote
pub record IsString (bytes value : List ℕ) : Type 0 where
  pub parts : List Part
  pub spelled : bytes ≡ 34 ∷ (parts_bytes parts ++ 34 ∷ [])
  pub each : AreParts parts
  pub means : value ≡ parts_value parts

-- The table of tokens: these bytes spell the token.
abbrev pub IsLexeme : List ℕ → Token → Type 0
IsLexeme bytes LeftParen = bytes ≡ 40 ∷ []
IsLexeme bytes RightParen = bytes ≡ 41 ∷ []
IsLexeme bytes (Word w) = (w ≡ bytes) × IsWord bytes
IsLexeme bytes (Number z) = IsInteger bytes z
IsLexeme bytes (Str s) = IsString bytes s

-- ---- what stands at the front of a text

-- a word or an integer, which more bytes may make longer
abbrev pub is_run : Token → Bool
is_run LeftParen = false
is_run RightParen = false
is_run (Word w) = true
is_run (Number z) = true
is_run (Str s) = false

-- a byte that makes such a token longer
abbrev pub goes_on : Token → ℕ → Bool
goes_on LeftParen b = false
goes_on RightParen b = false
goes_on (Word w) b = is_word_byte b
goes_on (Number z) b = is_ascii_digit b
goes_on (Str s) b = false

-- the end, or white space, a parenthesis or a quote
abbrev pub EndsRun : List ℕ → Type 0
EndsRun [] = ⊤
EndsRun (b ∷ bs) = IsTrue (may_follow b)

-- what stands behind a token may stand there
abbrev pub MayFollow : Token → List ℕ → Type 0
MayFollow LeftParen rest = ⊤
MayFollow RightParen rest = ⊤
MayFollow (Word w) rest = EndsRun rest
MayFollow (Number z) rest = EndsRun rest
MayFollow (Str s) rest = ⊤

-- a token is no longer and no larger than it may be
abbrev pub IsWithin : List ℕ → Token → Type 0
IsWithin bytes LeftParen = ⊤
IsWithin bytes RightParen = ⊤
IsWithin bytes (Word w) = length bytes ≤ 1024
IsWithin bytes (Number z) = (length bytes ≤ 1024) × (nat_abs z < 2 ^ 63)
IsWithin bytes (Str s) = length s ≤ MOST

-- These bytes are the longest at the front of a text that spell a token, and what stands behind
-- them may follow it.
pub record IsNext (lexeme : List ℕ) (token : Token) (rest : List ℕ) : Type 0 where
  pub spelled : IsLexeme lexeme token
  pub longest : (other behind : List ℕ) (t : Token) → lexeme ++ rest ≡ other ++ behind
      → IsLexeme other t → length other ≤ length lexeme
  pub follows : MayFollow token rest
  pub within : IsWithin lexeme token

-- how many bytes behind a token show its end: one where there is one behind a word or an integer
abbrev pub one_of : List ℕ → ℕ
one_of [] = 0
one_of (b ∷ bs) = 1

abbrev pub seen_behind : Token → List ℕ → ℕ
seen_behind LeftParen rest = 0
seen_behind RightParen rest = 0
seen_behind (Word w) rest = one_of rest
seen_behind (Number z) rest = one_of rest
seen_behind (Str s) rest = 0
