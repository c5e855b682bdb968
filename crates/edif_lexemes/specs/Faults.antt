-- The table of lexical faults: why no token stands at the front of some bytes (EDIF 2 0 0, basic
-- syntax).
use Rattle.std.specs.Prelude.{◌≡◌, ⊤, ℕ, ◌+◌, ◌-◌, ◌*◌, ◌<◌, ◌≤◌, ◌^◌, Bool, true, ◌&&◌, ◌||◌, ◌==◌, if◌then◌else◌, List, [], ◌∷◌, ◌++◌, length, IsTrue, IsFalse, ℤ, nat_abs}
use Rattle.std.specs.Char.{is_ascii_digit, is_ascii_alphabetic}
use Rattle.nl_base.specs.declared.fault.Reason.{Reason}
use Rattle.nl_base.specs.declared.fault.Reason.TheVariants.{EndOfInput, BadByte, BadEscape, TokenTooLong, NumberRange}
use Rattle.nl_bytes.specs.Classes.{is_space, is_word_byte, is_string_byte}
use Rattle.edif_tokens.specs.Spelling.{may_follow}
use Rattle.edif_values.specs.declared.token.Token.{Token}
use Rattle.edif_lexemes.specs.Strings.{MOST, Code, code_value, Part, parts_bytes, parts_value, Front, Between, Escaping, Coding, IsFront, front_bytes, front_value, is_some}
use Rattle.edif_lexemes.specs.Lexemes.{IsLexeme, IsInteger, EndsRun, is_run, goes_on, one_of}

-- a byte with which a token begins
abbrev pub begins_token : ℕ → Bool
begins_token b =
    b == 40 || b == 41 || b == 34 || is_ascii_alphabetic b || b == 38 || is_ascii_digit b || b == 43
    || b == 45

-- an `&` or a sign, behind which the first byte of a word or the first digit has to stand
abbrev pub is_head : ℕ → Bool
is_head b = b == 38 || b == 43 || b == 45

-- a byte that may stand behind it
abbrev pub is_second : ℕ → ℕ → Bool
is_second head b = if head == 38 then is_word_byte b else is_ascii_digit b

-- a byte that may stand in an escape which has codes, or has none
abbrev pub may_escape : Bool → ℕ → Bool
may_escape coded b = is_space b || is_ascii_digit b || (coded && (b == 37))

-- the bytes end, or go on with no digit
abbrev pub EndsCode : List ℕ → Type 0
EndsCode [] = ⊤
EndsCode (b ∷ bs) = IsFalse (is_ascii_digit b)

-- how many bytes the quote and a front of a string have
abbrev pub count_of : Front → ℕ
count_of front = 1 + length (front_bytes front)

-- Why no token stands at the front of some bytes, of which the first is no white space: the reason,
-- how many bytes stand before its place, and how many bytes decide it.
pub data IsFault (bytes : List ℕ) : Reason → ℕ → ℕ → Type 0 where
  -- no token begins so
  no_token : (b : ℕ) (rest : List ℕ) → bytes ≡ b ∷ rest → IsFalse (is_space b)
      → IsFalse (begins_token b) → IsFault bytes BadByte 0 1
  -- an `&` or a sign stands last
  ends_early : (b : ℕ) → bytes ≡ b ∷ [] → IsTrue (is_head b) → IsFault bytes EndOfInput 1 1
  -- an `&` or a sign stands before another byte than it may
  bad_second : (b c : ℕ) (rest : List ℕ) → bytes ≡ b ∷ c ∷ rest → IsTrue (is_head b)
      → IsFalse (is_second b c) → IsFault bytes BadByte 1 2
  -- another byte than may follow stands directly behind a word or an integer
  bad_behind : (lexeme : List ℕ) (token : Token) (b : ℕ) (rest : List ℕ)
      → bytes ≡ lexeme ++ b ∷ rest → IsLexeme lexeme token → IsTrue (is_run token)
      → length lexeme ≤ 1024 → IsFalse (goes_on token b) → IsFalse (may_follow b)
      → IsFault bytes BadByte (length lexeme) (length lexeme + 1)
  -- a word or an integer has more than 1,024 bytes
  long_run : (lexeme : List ℕ) (token : Token) (rest : List ℕ) → bytes ≡ lexeme ++ rest
      → IsLexeme lexeme token → IsTrue (is_run token) → length lexeme ≡ 1025
      → IsFault bytes TokenTooLong 0 1025
  -- an integer has an absolute value of 2^63 or more
  out_of_range : (lexeme : List ℕ) (z : ℤ) (rest : List ℕ) → bytes ≡ lexeme ++ rest
      → IsInteger lexeme z → length lexeme ≤ 1024 → EndsRun rest → 2 ^ 63 ≤ nat_abs z
      → IsFault bytes NumberRange 0 (length lexeme + one_of rest)
  -- the bytes end inside a string
  unended : (front : Front) → bytes ≡ 34 ∷ front_bytes front → IsFront front
      → length (front_value front) ≤ MOST → IsFault bytes EndOfInput (length bytes) (length bytes)
  -- a byte stands in a string that may not
  bad_in_string : (parts : List Part) (b : ℕ) (rest : List ℕ)
      → bytes ≡ 34 ∷ (parts_bytes parts ++ b ∷ rest) → IsFront (Between parts)
      → length (parts_value parts) ≤ MOST → IsFalse (is_string_byte b || b == 34 || b == 37)
      → IsFault bytes BadByte (count_of (Between parts)) (count_of (Between parts) + 1)
  -- a byte stands in an escape that may not, where no code goes on
  bad_in_escape : (parts : List Part) (codes : List Code) (white : List ℕ) (b : ℕ) (rest : List ℕ)
      → bytes ≡ 34 ∷ (front_bytes (Escaping parts codes white) ++ b ∷ rest)
      → IsFront (Escaping parts codes white)
      → length (front_value (Escaping parts codes white)) ≤ MOST
      → IsFalse (may_escape (is_some codes) b)
      → IsFault bytes BadEscape (count_of (Between parts))
      (count_of (Escaping parts codes white) + 1)
  -- a byte stands in an escape that may not, behind a code
  bad_behind_code : (parts : List Part) (codes : List Code) (code : Code) (b : ℕ) (rest : List ℕ)
      → bytes ≡ 34 ∷ (front_bytes (Coding parts codes code) ++ b ∷ rest)
      → IsFront (Coding parts codes code) → length (front_value (Coding parts codes code)) ≤ MOST
      → IsFalse (may_escape true b)
      → IsFault bytes BadEscape (count_of (Between parts)) (count_of (Coding parts codes code) + 1)
  -- a code is above 255
  large_code : (parts : List Part) (codes : List Code) (code : Code) (b : ℕ) (rest : List ℕ)
      → bytes ≡ 34 ∷ (front_bytes (Coding parts codes code) ++ b ∷ rest)
      → IsFront (Coding parts codes code)
      → length (front_value (Escaping parts codes code.white)) ≤ MOST → IsTrue (is_ascii_digit b)
      → 255 < 10 * code_value code + (b - 48)
      → IsFault bytes BadEscape (count_of (Between parts)) (count_of (Coding parts codes code) + 1)
  -- a byte of a string is one too many
  long_string : (parts : List Part) (b : ℕ) (rest : List ℕ)
      → bytes ≡ 34 ∷ (parts_bytes parts ++ b ∷ rest) → IsFront (Between parts)
      → length (parts_value parts) ≡ MOST → IsTrue (is_string_byte b)
      → IsFault bytes TokenTooLong 0 (count_of (Between parts) + 1)
  -- the byte of a code is one too many
  long_by_code : (parts : List Part) (codes : List Code) (code : Code) (rest : List ℕ)
      → bytes ≡ 34 ∷ (front_bytes (Coding parts codes code) ++ rest)
      → IsFront (Coding parts codes code)
      → length (front_value (Escaping parts codes code.white)) ≡ MOST → EndsCode rest
      → IsFault bytes TokenTooLong 0 (count_of (Coding parts codes code))
