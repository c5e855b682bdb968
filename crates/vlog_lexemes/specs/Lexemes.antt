-- How each token of Verilog is spelled, what white space is, and what stands at the front of a text
-- (IEEE 1364-2005, 3 and 19).
use Rattle.std.specs.Prelude.{◌≡◌, ◌⊎◌, ⊤, ℕ, ◌+◌, ◌<◌, ◌≤◌, ◌^◌, Bool, true, false, not, ◌||◌, ◌==◌, if◌then◌else◌, List, [], ◌∷◌, ◌++◌, length, codes, IsTrue, IsFalse, Some, pos}
use Rattle.std.specs.Char.{is_ascii_digit, is_ascii_alphabetic}
use Rattle.std.specs.List.{AllByRecursion, filter, concat}
use Rattle.nl_base.specs.declared.number.Scaled.{Scaled}
use Rattle.nl_bytes.specs.Classes.{is_verilog_space, is_word_byte, is_name_byte, is_number_byte, is_based_byte, is_graphic, is_line_byte}
use Rattle.vlog_values.specs.declared.literal.Base.{Base}
use Rattle.vlog_values.specs.declared.literal.Base.TheVariants.{Decimal}
use Rattle.vlog_values.specs.declared.literal.Based.{Based}
use Rattle.vlog_tokens.specs.Keywords.{is_keyword}
use Rattle.vlog_tokens.specs.Numbers.{decimal_value, real_of}
use Rattle.vlog_tokens.specs.Items.{is_kept, has_value}
use Rattle.vlog_tokens.specs.Phases.{is_mark, is_sign, is_open, is_digit, base_of}
use Rattle.vlog_tokens.specs.Spelling as marks
use Rattle.vlog_tokens.specs.declared.token.VToken.{VToken}
use Rattle.vlog_tokens.specs.declared.token.VToken.TheVariants.{Name, Keyword, Number, Real, Str, Punct, AttrStart, AttrStop, Symbol, Directive}
use Rattle.vlog_tokens.specs.declared.token.VToken.TheVariants as tokens
use Rattle.vlog_lexemes.specs.Strings.{MOST, IsString}

abbrev pub AllPass : (ℕ → Bool) → List ℕ → Type 0
AllPass class bytes = AllByRecursion (λ b. IsTrue (class b)) bytes

-- a first byte, and others of a class
abbrev pub IsRun : (ℕ → Bool) → (ℕ → Bool) → List ℕ → Type 0
IsRun begins class [] = ⊥
IsRun begins class (b ∷ bs) = IsTrue (begins b) × AllPass class bs

-- ---- names and directives (3.7, 19)

-- a letter or `_`
abbrev pub begins_name : ℕ → Bool
begins_name b = is_ascii_alphabetic b || b == 95

-- a simple name or a keyword: a letter or `_`, then letters, digits, `_` and `$`
abbrev pub IsSimple : List ℕ → Type 0
IsSimple bytes = IsRun begins_name is_name_byte bytes

-- what stands behind the `\` of an escaped name: printed bytes, at least one
abbrev pub IsEscaped : List ℕ → Type 0
IsEscaped bytes = IsRun is_graphic is_graphic bytes

-- what stands behind the backtick of a directive: a letter or `_`, then letters, digits and `_`
abbrev pub IsDirective : List ℕ → Type 0
IsDirective bytes = IsRun begins_name is_word_byte bytes

-- the directives that are white space, of which the first takes the rest of its line
abbrev pub timescale : List ℕ
timescale = codes "`timescale"

abbrev pub celldefine : List ℕ
celldefine = codes "`celldefine"

abbrev pub endcelldefine : List ℕ
endcelldefine = codes "`endcelldefine"

-- ---- numbers (3.5)

-- a digit, then digits and `_`
abbrev pub IsNumeral : List ℕ → Type 0
IsNumeral bytes = IsRun is_ascii_digit is_number_byte bytes

-- a real without an exponent: a numeral, a point, a numeral
pub record IsFixed (bytes : List ℕ) : Type 0 where
  pub whole : List ℕ
  pub fraction : List ℕ
  pub spelled : bytes ≡ whole ++ 46 ∷ fraction
  pub before : IsNumeral whole
  pub behind : IsNumeral fraction

-- no sign, or one
abbrev pub IsSign : List ℕ → Type 0
IsSign [] = ⊤
IsSign (b ∷ []) = IsTrue (is_sign b)
IsSign (b ∷ c ∷ cs) = ⊥

-- a real with an exponent: a numeral or a real without, `e` or `E`, a sign or none, a numeral
pub record IsScaled (bytes : List ℕ) : Type 0 where
  pub mantissa : List ℕ
  pub mark : ℕ
  pub sign : List ℕ
  pub exponent : List ℕ
  pub spelled : bytes ≡ mantissa ++ mark ∷ (sign ++ exponent)
  pub before : IsNumeral mantissa ⊎ IsFixed mantissa
  pub at_mark : IsTrue (is_mark mark)
  pub signed : IsSign sign
  pub behind : IsNumeral exponent

-- no `s`, or one in either case
abbrev pub IsSigned : List ℕ → Bool → Type 0
IsSigned [] signed = IsFalse signed
IsSigned (b ∷ []) signed = IsTrue (b == 115 || b == 83) × IsTrue signed
IsSigned (b ∷ c ∷ cs) signed = ⊥

-- the bytes of a base's digits: its digits and `_`; or, for a decimal, one `x`, `z` or `?`
abbrev pub digit_byte : Base → ℕ → Bool
digit_byte base b = is_digit base b || b == 95

abbrev pub is_low_line : ℕ → Bool
is_low_line b = b == 95

abbrev pub AreDigitsOf : Base → List ℕ → Type 0
AreDigitsOf base bytes =
    IsRun (is_digit base) (digit_byte base) bytes
    ⊎ ((base ≡ Decimal) × IsRun is_open is_low_line bytes)

-- a based literal: `'`, an `s` or none, the letter of a base, white space, digits
pub record IsBased (bytes : List ℕ) (based : Based) : Type 0 where
  pub sign : List ℕ
  pub letter : ℕ
  pub white : List ℕ
  pub digits : List ℕ
  pub spelled : bytes ≡ 39 ∷ (sign ++ letter ∷ (white ++ digits))
  pub signed : IsSigned sign based.signed
  pub at_letter : base_of letter ≡ Some based.base
  pub blank : AllPass is_verilog_space white
  pub each : AreDigitsOf based.base digits
  -- the digits are kept without `_`
  pub kept : based.digits ≡ filter is_kept digits
  pub short : length sign + length digits + 2 ≤ 131072
  pub in_range : IsTrue (has_value based.base based.digits)

-- ---- the table of tokens

-- any byte may follow
abbrev pub any : ℕ → Bool
any b = true

abbrev pub no_name_byte : ℕ → Bool
no_name_byte b = not (is_name_byte b)

abbrev pub no_word_byte : ℕ → Bool
no_word_byte b = not (is_word_byte b)

-- a byte that does not go on in a number and makes it no real
abbrev pub no_real_byte : ℕ → Bool
no_real_byte b = not (is_number_byte b || b == 46 || is_mark b)

abbrev pub no_exponent_byte : ℕ → Bool
no_exponent_byte b = not (is_number_byte b || is_mark b)

abbrev pub no_number_byte : ℕ → Bool
no_number_byte b = not (is_number_byte b)

abbrev pub no_based_byte : ℕ → Bool
no_based_byte b = not (is_based_byte b)

abbrev pub no_star : ℕ → Bool
no_star b = not (b == 42)

abbrev pub no_parenthesis : ℕ → Bool
no_parenthesis b = not (b == 41)

abbrev pub no_comment : ℕ → Bool
no_comment b = not (b == 47 || b == 42)

-- Some bytes spell a token, within the limits of tokens, and these bytes may stand directly behind
-- it.
pub data IsLexeme (bytes : List ℕ) : VToken → (ℕ → Bool) → Type 0 where
  simple_name : IsSimple bytes → IsFalse (is_keyword bytes) → length bytes ≤ 1024
      → IsLexeme bytes (Name bytes) no_name_byte
  keyword : IsSimple bytes → IsTrue (is_keyword bytes) → length bytes ≤ 1024
      → IsLexeme bytes (Keyword bytes) no_name_byte
  escaped_name : (name : List ℕ) → bytes ≡ 92 ∷ name → IsEscaped name → length name ≤ 1024
      → IsLexeme bytes (Name name) is_verilog_space
  number : IsNumeral bytes → length bytes ≤ 131072 → decimal_value bytes < 2 ^ 63
      → IsLexeme bytes (Number (pos (decimal_value bytes))) no_real_byte
  fixed : (r : Scaled) → IsFixed bytes → length bytes ≤ 131072 → real_of bytes ≡ Some r
      → IsLexeme bytes (Real r) no_exponent_byte
  scaled : (r : Scaled) → IsScaled bytes → length bytes ≤ 131072 → real_of bytes ≡ Some r
      → IsLexeme bytes (Real r) no_number_byte
  literal : (based : Based) → IsBased bytes based
      → IsLexeme bytes (tokens.Based based) no_based_byte
  string : (s : List ℕ) → IsString bytes s → length s ≤ MOST → IsLexeme bytes (Str s) any
  attributes_begin : bytes ≡ 40 ∷ 42 ∷ [] → IsLexeme bytes AttrStart any
  attributes_end : bytes ≡ 42 ∷ 41 ∷ [] → IsLexeme bytes AttrStop any
  parenthesis : bytes ≡ 40 ∷ [] → IsLexeme bytes (Punct 40) no_star
  punctuation : (b : ℕ) → bytes ≡ b ∷ [] → IsTrue (marks.is_mark b) → IsLexeme bytes (Punct b) any
  star : bytes ≡ 42 ∷ [] → IsLexeme bytes (Symbol 42) no_parenthesis
  slash : bytes ≡ 47 ∷ [] → IsLexeme bytes (Symbol 47) no_comment
  symbol : (b : ℕ) → bytes ≡ b ∷ [] → IsTrue (marks.is_symbol b) → IsLexeme bytes (Symbol b) any
  directive : (word : List ℕ) → bytes ≡ 96 ∷ word → IsDirective word → length bytes ≤ 1024
      → (bytes ≡ timescale → ⊥) → (bytes ≡ celldefine → ⊥) → (bytes ≡ endcelldefine → ⊥)
      → IsLexeme bytes (Directive bytes) no_word_byte

-- the end, or a byte that may follow
abbrev pub MayFollow : (ℕ → Bool) → List ℕ → Type 0
MayFollow follows [] = ⊤
MayFollow follows (b ∷ bs) = IsTrue (follows b)

-- These bytes are the longest at the front of a text that spell a token, and what stands behind may
-- follow it.
pub record IsNext (lexeme : List ℕ) (token : VToken) (rest : List ℕ) : Type 0 where
  pub follows : ℕ → Bool
  pub spelled : IsLexeme lexeme token follows
  pub longest : (other behind : List ℕ) (t : VToken) (others : ℕ → Bool)
      → lexeme ++ rest ≡ other ++ behind → IsLexeme other t others → length other ≤ length lexeme
  pub behind : MayFollow follows rest

-- ---- white space (3.2, 3.3, 19)

-- the end of a line or of the text comes next
abbrev pub EndsLine : List ℕ → Type 0
EndsLine [] = ⊤
EndsLine (b ∷ bs) = b ≡ 10

-- no `*/` stands in some bytes
abbrev pub ends_comment : ℕ → List ℕ → Bool
ends_comment b [] = false
ends_comment b (c ∷ cs) = if b == 42 then c == 47 else false

abbrev pub NoCommentEnd : List ℕ → Type 0
NoCommentEnd [] = ⊤
NoCommentEnd (b ∷ bs) = IsFalse (ends_comment b bs) × NoCommentEnd bs

-- a piece of white space before what follows
pub data IsBlank (bytes rest : List ℕ) : Type 0 where
  white_byte : (b : ℕ) → bytes ≡ b ∷ [] → IsTrue (is_verilog_space b) → IsBlank bytes rest
  line_comment : (line : List ℕ) → bytes ≡ 47 ∷ 47 ∷ line → AllPass is_line_byte line
      → EndsLine rest → IsBlank bytes rest
  block_comment : (body : List ℕ) → bytes ≡ 47 ∷ 42 ∷ (body ++ 42 ∷ 47 ∷ [])
      → NoCommentEnd (body ++ 42 ∷ []) → IsBlank bytes rest
  time_directive : (line : List ℕ) → bytes ≡ timescale ++ line → AllPass is_line_byte line
      → MayFollow no_word_byte (line ++ rest) → EndsLine rest → IsBlank bytes rest
  cell_directive : (bytes ≡ celldefine) ⊎ (bytes ≡ endcelldefine) → MayFollow no_word_byte rest
      → IsBlank bytes rest

-- the pieces of white space, one behind another, before what follows
abbrev pub AreBlanks : List (List ℕ) → List ℕ → Type 0
AreBlanks [] rest = ⊤
AreBlanks (piece ∷ pieces) rest = IsBlank piece (concat pieces ++ rest) × AreBlanks pieces rest

-- ---- how far a token is seen

-- whether the byte behind a token shows its end
abbrev pub looks : VToken → Bool
looks (Name name) = true
looks (Keyword word) = true
looks (Number z) = true
looks (Real r) = true
looks (tokens.Based based) = true
looks (Str s) = false
looks (Punct b) = b == 40
looks AttrStart = false
looks AttrStop = false
looks (Symbol b) = b == 42 || b == 47
looks (Directive word) = true

abbrev pub one_of : List ℕ → ℕ
one_of [] = 0
one_of (b ∷ bs) = 1

-- how many bytes behind a token were seen
abbrev pub seen_behind : VToken → List ℕ → ℕ
seen_behind t rest = if looks t then one_of rest else 0
