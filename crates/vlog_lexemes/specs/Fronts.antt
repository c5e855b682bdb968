-- The bytes so far of names, numbers, literals and directives, and what may stand behind them (IEEE
-- 1364-2005, 3.5, 3.7 and 19).
use Rattle.std.specs.Prelude.{◌≡◌, ◌⊎◌, ⊤, ℕ, ◌≤◌, ◌^◌, Bool, true, false, not, ◌||◌, ◌&&◌, ◌==◌, List, [], ◌∷◌, ◌++◌, Option, Some, None, IsTrue, IsFalse}
use Rattle.std.specs.Char.{is_ascii_digit}
use Rattle.std.specs.List.{filter}
use Rattle.nl_bytes.specs.Classes.{is_verilog_space, is_word_byte, is_name_byte, is_number_byte, is_based_byte, is_graphic}
use Rattle.vlog_values.specs.declared.literal.Base.{Base}
use Rattle.vlog_values.specs.declared.literal.Base.TheVariants.{Binary, Octal, Decimal, Hex}
use Rattle.vlog_tokens.specs.Items.{is_kept, has_value}
use Rattle.vlog_tokens.specs.Numbers.{decimal_value, real_of}
use Rattle.vlog_tokens.specs.Phases.{is_mark, is_sign, is_open, is_digit, base_of}
use Rattle.vlog_lexemes.specs.Lexemes.{AllPass, IsRun, IsSimple, IsEscaped, IsDirective, IsNumeral, IsFixed, IsSign, IsSigned, begins_name, digit_byte, is_low_line, any, no_name_byte, no_word_byte, no_real_byte, no_exponent_byte, no_number_byte, no_based_byte}

-- The bytes so far of a token that more bytes may make longer: a simple name; a `\`, and an escaped
-- name; a numeral, one with a point behind it, a real without an exponent, one with an `e` behind
-- it, with a sign behind that, and a real with an exponent; a `'`, with an `s` behind it, with the
-- letter of a base and white space, and a literal with digits or with one `x`, `z` or `?`; a
-- backtick, and a directive.
pub data Front : Type 0 where
  OfName : List ℕ → Front
  AtEscape : Front
  OfEscaped : List ℕ → Front
  OfNumeral : List ℕ → Front
  AtPoint : List ℕ → Front
  OfFixed : List ℕ → List ℕ → Front
  AtMark : List ℕ → ℕ → Front
  AtSign : List ℕ → ℕ → ℕ → Front
  OfScaled : List ℕ → ℕ → List ℕ → List ℕ → Front
  AtQuote : Front
  AtSigned : ℕ → Front
  AtLetter : List ℕ → Bool → ℕ → Base → List ℕ → Front
  OfDigits : List ℕ → Bool → ℕ → Base → List ℕ → List ℕ → Front
  OfUnknown : List ℕ → Bool → ℕ → List ℕ → List ℕ → Front
  AtGrave : Front
  OfDirective : List ℕ → Front

abbrev pub front_bytes : Front → List ℕ
front_bytes (OfName bytes) = bytes
front_bytes AtEscape = 92 ∷ []
front_bytes (OfEscaped name) = 92 ∷ name
front_bytes (OfNumeral w) = w
front_bytes (AtPoint w) = w ++ 46 ∷ []
front_bytes (OfFixed w f) = w ++ 46 ∷ f
front_bytes (AtMark m e) = m ++ e ∷ []
front_bytes (AtSign m e s) = m ++ e ∷ s ∷ []
front_bytes (OfScaled m e s x) = m ++ e ∷ (s ++ x)
front_bytes AtQuote = 39 ∷ []
front_bytes (AtSigned s) = 39 ∷ s ∷ []
front_bytes (AtLetter sign signed letter base white) = 39 ∷ (sign ++ letter ∷ white)
front_bytes (OfDigits sign signed letter base white digits) =
    39 ∷ (sign ++ letter ∷ (white ++ digits))
front_bytes (OfUnknown sign signed letter white digits) = 39 ∷ (sign ++ letter ∷ (white ++ digits))
front_bytes AtGrave = 96 ∷ []
front_bytes (OfDirective word) = 96 ∷ word

-- what is kept of them
abbrev pub front_text : Front → List ℕ
front_text (OfName bytes) = bytes
front_text AtEscape = []
front_text (OfEscaped name) = name
front_text (OfNumeral w) = w
front_text (AtPoint w) = w ++ 46 ∷ []
front_text (OfFixed w f) = w ++ 46 ∷ f
front_text (AtMark m e) = m ++ e ∷ []
front_text (AtSign m e s) = m ++ e ∷ s ∷ []
front_text (OfScaled m e s x) = m ++ e ∷ (s ++ x)
front_text AtQuote = 39 ∷ []
front_text (AtSigned s) = 39 ∷ s ∷ []
front_text (AtLetter sign signed letter base white) = 39 ∷ (sign ++ letter ∷ [])
front_text (OfDigits sign signed letter base white digits) = 39 ∷ (sign ++ letter ∷ digits)
front_text (OfUnknown sign signed letter white digits) = 39 ∷ (sign ++ letter ∷ digits)
front_text AtGrave = 96 ∷ []
front_text (OfDirective word) = 96 ∷ word

abbrev pub IsMantissa : List ℕ → Type 0
IsMantissa bytes = IsNumeral bytes ⊎ IsFixed bytes

abbrev pub IsHead : List ℕ → Bool → ℕ → Base → List ℕ → Type 0
IsHead sign signed letter base white =
    IsSigned sign signed × (base_of letter ≡ Some base) × AllPass is_verilog_space white

abbrev pub IsFront : Front → Type 0
IsFront (OfName bytes) = IsSimple bytes
IsFront AtEscape = ⊤
IsFront (OfEscaped name) = IsEscaped name
IsFront (OfNumeral w) = IsNumeral w
IsFront (AtPoint w) = IsNumeral w
IsFront (OfFixed w f) = IsNumeral w × IsNumeral f
IsFront (AtMark m e) = IsMantissa m × (is_mark e ≡ true)
IsFront (AtSign m e s) = IsMantissa m × (is_mark e ≡ true) × (is_sign s ≡ true)
IsFront (OfScaled m e s x) = IsMantissa m × (is_mark e ≡ true) × IsSign s × IsNumeral x
IsFront AtQuote = ⊤
IsFront (AtSigned s) = IsTrue (s == 115 || s == 83)
IsFront (AtLetter sign signed letter base white) = IsHead sign signed letter base white
IsFront (OfDigits sign signed letter base white digits) =
    IsHead sign signed letter base white × IsRun (is_digit base) (digit_byte base) digits
IsFront (OfUnknown sign signed letter white digits) =
    IsHead sign signed letter Decimal white × IsRun is_open is_low_line digits
IsFront AtGrave = ⊤
IsFront (OfDirective word) = IsDirective word

-- the bytes that may follow where the bytes so far are a token
abbrev pub follows_of : Front → ℕ → Bool
follows_of (OfName bytes) = no_name_byte
follows_of AtEscape = any
follows_of (OfEscaped name) = is_verilog_space
follows_of (OfNumeral w) = no_real_byte
follows_of (AtPoint w) = any
follows_of (OfFixed w f) = no_exponent_byte
follows_of (AtMark m e) = any
follows_of (AtSign m e s) = any
follows_of (OfScaled m e s x) = no_number_byte
follows_of AtQuote = any
follows_of (AtSigned s) = any
follows_of (AtLetter sign signed letter base white) = any
follows_of (OfDigits sign signed letter base white digits) = no_based_byte
follows_of (OfUnknown sign signed letter white digits) = no_based_byte
follows_of AtGrave = any
follows_of (OfDirective word) = no_word_byte

-- the bytes so far are a token
abbrev pub is_whole : Front → Bool
is_whole (OfName bytes) = true
is_whole AtEscape = false
is_whole (OfEscaped name) = true
is_whole (OfNumeral w) = true
is_whole (AtPoint w) = false
is_whole (OfFixed w f) = true
is_whole (AtMark m e) = false
is_whole (AtSign m e s) = false
is_whole (OfScaled m e s x) = true
is_whole AtQuote = false
is_whole (AtSigned s) = false
is_whole (AtLetter sign signed letter base white) = false
is_whole (OfDigits sign signed letter base white digits) = true
is_whole (OfUnknown sign signed letter white digits) = true
is_whole AtGrave = false
is_whole (OfDirective word) = true

-- how many bytes of such a token may be kept
abbrev pub most_kept : Front → ℕ
most_kept (OfName bytes) = 1024
most_kept AtEscape = 1024
most_kept (OfEscaped name) = 1024
most_kept (OfNumeral w) = 131072
most_kept (AtPoint w) = 131072
most_kept (OfFixed w f) = 131072
most_kept (AtMark m e) = 131072
most_kept (AtSign m e s) = 131072
most_kept (OfScaled m e s x) = 131072
most_kept AtQuote = 131072
most_kept (AtSigned s) = 131072
most_kept (AtLetter sign signed letter base white) = 131072
most_kept (OfDigits sign signed letter base white digits) = 131072
most_kept (OfUnknown sign signed letter white digits) = 131072
most_kept AtGrave = 1024
most_kept (OfDirective word) = 1024

abbrev pub names_base : Option Base → Bool
names_base None = false
names_base (Some base) = true

-- a first digit of a base; a decimal may have one `x`, `z` or `?` in its place
abbrev pub is_first : Base → ℕ → Bool
is_first Binary b = is_digit Binary b
is_first Octal b = is_digit Octal b
is_first Decimal b = is_ascii_digit b || is_open b
is_first Hex b = is_digit Hex b

-- the byte makes the bytes so far longer, and is kept
abbrev pub goes_on : Front → ℕ → Bool
goes_on (OfName bytes) b = is_name_byte b
goes_on AtEscape b = is_graphic b
goes_on (OfEscaped name) b = is_graphic b
goes_on (OfNumeral w) b = is_number_byte b || b == 46 || is_mark b
goes_on (AtPoint w) b = is_ascii_digit b
goes_on (OfFixed w f) b = is_number_byte b || is_mark b
goes_on (AtMark m e) b = is_ascii_digit b || is_sign b
goes_on (AtSign m e s) b = is_ascii_digit b
goes_on (OfScaled m e s x) b = is_number_byte b
goes_on AtQuote b = (b == 115 || b == 83) || names_base (base_of b)
goes_on (AtSigned s) b = names_base (base_of b)
goes_on (AtLetter sign signed letter base white) b = not (is_verilog_space b) && is_first base b
goes_on (OfDigits sign signed letter base white digits) b = digit_byte base b
goes_on (OfUnknown sign signed letter white digits) b = is_low_line b
goes_on AtGrave b = begins_name b
goes_on (OfDirective word) b = is_word_byte b

-- the byte may stand behind the bytes so far
abbrev pub may_stand : Front → ℕ → Bool
may_stand (OfName bytes) b = true
may_stand AtEscape b = is_graphic b
may_stand (OfEscaped name) b = is_graphic b || is_verilog_space b
may_stand (OfNumeral w) b = true
may_stand (AtPoint w) b = is_ascii_digit b
may_stand (OfFixed w f) b = true
may_stand (AtMark m e) b = is_ascii_digit b || is_sign b
may_stand (AtSign m e s) b = is_ascii_digit b
may_stand (OfScaled m e s x) b = true
may_stand AtQuote b = (b == 115 || b == 83) || names_base (base_of b)
may_stand (AtSigned s) b = names_base (base_of b)
may_stand (AtLetter sign signed letter base white) b = is_verilog_space b || is_first base b
may_stand (OfDigits sign signed letter base white digits) b =
    digit_byte base b || not (is_based_byte b)
may_stand (OfUnknown sign signed letter white digits) b = is_low_line b || not (is_based_byte b)
may_stand AtGrave b = begins_name b
may_stand (OfDirective word) b = true

-- a whole number, real or decimal literal is too large
abbrev pub IsLarge : Front → Type 0
IsLarge (OfName bytes) = ⊥
IsLarge AtEscape = ⊥
IsLarge (OfEscaped name) = ⊥
IsLarge (OfNumeral w) = 2 ^ 63 ≤ decimal_value w
IsLarge (AtPoint w) = ⊥
IsLarge (OfFixed w f) = real_of (w ++ 46 ∷ f) ≡ None
IsLarge (AtMark m e) = ⊥
IsLarge (AtSign m e s) = ⊥
IsLarge (OfScaled m e s x) = real_of (m ++ e ∷ (s ++ x)) ≡ None
IsLarge AtQuote = ⊥
IsLarge (AtSigned s) = ⊥
IsLarge (AtLetter sign signed letter base white) = ⊥
IsLarge (OfDigits sign signed letter base white digits) =
    IsFalse (has_value base (filter is_kept digits))
IsLarge (OfUnknown sign signed letter white digits) =
    IsFalse (has_value Decimal (filter is_kept digits))
IsLarge AtGrave = ⊥
IsLarge (OfDirective word) = ⊥
