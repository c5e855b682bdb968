-- The table of lexical faults: why neither a token nor white space stands at the front of some
-- bytes (IEEE 1364-2005, 3).
use Rattle.std.specs.Prelude.{◌≡◌, ℕ, ◌+◌, ◌-◌, ◌*◌, ◌<◌, ◌≤◌, Bool, ◌||◌, ◌==◌, List, [], ◌∷◌, ◌++◌, length, IsTrue, IsFalse}
use Rattle.std.specs.Char.{is_ascii_digit}
use Rattle.std.specs.List.{AllByRecursion}
use Rattle.nl_base.specs.declared.fault.Reason.{Reason}
use Rattle.nl_base.specs.declared.fault.Reason.TheVariants.{EndOfInput, BadByte, BadEscape, TokenTooLong, NumberRange}
use Rattle.nl_bytes.specs.Classes.{is_verilog_space, is_verilog_string_byte}
use Rattle.vlog_tokens.specs.Strings.{is_octal}
use Rattle.vlog_tokens.specs.Spelling as marks
use Rattle.vlog_lexemes.specs.Strings.{MOST, Part, StandsFor, octal_value, IsCode, AreParts, parts_bytes, parts_value}
use Rattle.vlog_lexemes.specs.Lexemes.{begins_name, MayFollow, NoCommentEnd, one_of}
use Rattle.vlog_lexemes.specs.Fronts.{Front, front_bytes, front_text, IsFront, is_whole, most_kept, goes_on, may_stand, follows_of, IsLarge}

-- a byte with which a token or white space begins
abbrev pub begins_item : ℕ → Bool
begins_item b =
    is_verilog_space b || begins_name b || is_ascii_digit b || b == 92 || b == 39 || b == 96
    || b == 34 || b == 40 || b == 42 || b == 47 || marks.is_mark b || marks.is_symbol b

-- a byte that may stand behind the `\` of an escape
abbrev pub may_escape : ℕ → Bool
may_escape b = b == 110 || b == 116 || (b == 92 || b == 34) || is_octal b

-- how many bytes the quote and parts of a string have
abbrev pub count_of : List Part → ℕ
count_of parts = 1 + length (parts_bytes parts)

-- Why neither a token nor white space stands at the front of some bytes: the reason, how many bytes
-- stand before its place, and how many bytes decide it.
pub data IsFault (bytes : List ℕ) : Reason → ℕ → ℕ → Type 0 where
  -- nothing begins so
  no_token : (b : ℕ) (rest : List ℕ) → bytes ≡ b ∷ rest → IsFalse (begins_item b)
      → IsFault bytes BadByte 0 1
  -- the bytes end where a token has to go on
  ends_early : (f : Front) → bytes ≡ front_bytes f → IsFront f → IsFalse (is_whole f)
      → length (front_text f) ≤ most_kept f → IsFault bytes EndOfInput (length bytes) (length bytes)
  -- a byte stands behind a front that may not
  bad_behind : (f : Front) (b : ℕ) (rest : List ℕ) → bytes ≡ front_bytes f ++ b ∷ rest → IsFront f
      → IsFalse (may_stand f b) → length (front_text f) ≤ most_kept f
      → IsFault bytes BadByte (length (front_bytes f)) (length (front_bytes f) + 1)
  -- a byte is one more than may be kept of a token
  long_token : (f : Front) (b : ℕ) (rest : List ℕ) → bytes ≡ front_bytes f ++ b ∷ rest → IsFront f
      → IsTrue (goes_on f b) → length (front_text f) ≡ most_kept f
      → IsFault bytes TokenTooLong 0 (length (front_bytes f) + 1)
  -- a number, a real or a decimal literal is too large
  out_of_range : (f : Front) (rest : List ℕ) → bytes ≡ front_bytes f ++ rest → IsFront f
      → MayFollow (follows_of f) rest → length (front_text f) ≤ most_kept f → IsLarge f
      → IsFault bytes NumberRange 0 (length (front_bytes f) + one_of rest)
  -- the bytes end inside a comment
  unended_comment : (body : List ℕ) → bytes ≡ 47 ∷ 42 ∷ body → NoCommentEnd body
      → IsFault bytes EndOfInput (length bytes) (length bytes)
  -- the bytes end inside a string
  unended : (parts : List Part) → bytes ≡ 34 ∷ parts_bytes parts → AreParts parts []
      → length (parts_value parts) ≤ MOST → IsFault bytes EndOfInput (length bytes) (length bytes)
  -- the bytes end behind the `\` of an escape
  unended_escape : (parts : List Part) → bytes ≡ 34 ∷ (parts_bytes parts ++ 92 ∷ [])
      → AreParts parts (92 ∷ []) → length (parts_value parts) ≤ MOST
      → IsFault bytes EndOfInput (length bytes) (length bytes)
  -- a byte stands in a string that may not
  bad_in_string : (parts : List Part) (b : ℕ) (rest : List ℕ)
      → bytes ≡ 34 ∷ (parts_bytes parts ++ b ∷ rest) → AreParts parts (b ∷ rest)
      → length (parts_value parts) ≤ MOST
      → IsFalse (b == 34 || b == 92 || is_verilog_string_byte b)
      → IsFault bytes BadByte (count_of parts) (count_of parts + 1)
  -- a byte of a string makes no escape
  bad_escape : (parts : List Part) (b : ℕ) (rest : List ℕ)
      → bytes ≡ 34 ∷ (parts_bytes parts ++ 92 ∷ b ∷ rest) → AreParts parts (92 ∷ b ∷ rest)
      → length (parts_value parts) ≤ MOST → IsFalse (may_escape b)
      → IsTrue (is_verilog_string_byte b)
      → IsFault bytes BadEscape (count_of parts) (count_of parts + 2)
  -- a byte that may stand in no string stands behind a `\`
  bad_in_escape : (parts : List Part) (b : ℕ) (rest : List ℕ)
      → bytes ≡ 34 ∷ (parts_bytes parts ++ 92 ∷ b ∷ rest) → AreParts parts (92 ∷ b ∷ rest)
      → length (parts_value parts) ≤ MOST → IsFalse (may_escape b)
      → IsFalse (is_verilog_string_byte b)
      → IsFault bytes BadByte (count_of parts + 1) (count_of parts + 2)
  -- a code is above 255
  large_code : (parts : List Part) (digits : List ℕ) (b : ℕ) (rest : List ℕ)
      → bytes ≡ 34 ∷ (parts_bytes parts ++ 92 ∷ (digits ++ b ∷ rest))
      → AreParts parts (92 ∷ (digits ++ b ∷ rest)) → length (parts_value parts) ≤ MOST
      → 0 < length digits → length digits < 3
      → AllByRecursion (λ d. IsTrue (is_octal d)) digits → octal_value digits ≤ 255
      → IsTrue (is_octal b) → 255 < 8 * octal_value digits + (b - 48)
      → IsFault bytes BadEscape (count_of parts) (count_of parts + 1 + length digits + 1)
  -- a byte of a string is one too many
  long_string : (parts : List Part) (b : ℕ) (rest : List ℕ)
      → bytes ≡ 34 ∷ (parts_bytes parts ++ b ∷ rest) → AreParts parts (b ∷ rest)
      → length (parts_value parts) ≡ MOST → IsTrue (is_verilog_string_byte b)
      → IsFault bytes TokenTooLong 0 (count_of parts + 1)
  -- the byte for which an escape stands is
  long_by_escape : (parts : List Part) (b c : ℕ) (rest : List ℕ)
      → bytes ≡ 34 ∷ (parts_bytes parts ++ 92 ∷ b ∷ rest) → AreParts parts (92 ∷ b ∷ rest)
      → length (parts_value parts) ≡ MOST → StandsFor b c
      → IsFault bytes TokenTooLong 0 (count_of parts + 2)
  -- the byte of a code is
  long_by_code : (parts : List Part) (digits rest : List ℕ)
      → bytes ≡ 34 ∷ (parts_bytes parts ++ 92 ∷ (digits ++ rest))
      → AreParts parts (92 ∷ (digits ++ rest)) → length (parts_value parts) ≡ MOST
      → IsCode digits rest → IsFault bytes TokenTooLong 0 (count_of parts + 1 + length digits)
