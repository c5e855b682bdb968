-- How a name, a number, a real, a based literal and a directive go on (IEEE 1364-2005, 3.5, 3.7 and 19).
--
-- Each is as long as possible: `next_step` says what the byte behind its bytes so far is to it. A token that is not complete yet has to
-- go on.
use Rattle.std.specs.Prelude.{ℕ, Bool, true, false, ◌||◌, ◌&&◌, ◌==◌, nat_le, if◌then◌else◌, Option, Some, None}
use Rattle.std.specs.Char.{is_ascii_digit, is_ascii_alphabetic}
use Rattle.nl_bytes.specs.Classes.{is_verilog_space, is_word_byte, is_name_byte, is_number_byte, is_based_byte, is_graphic}
use Rattle.nl_bytes.specs.declared.class.Class.{Class}
use Rattle.nl_bytes.specs.declared.class.Class.TheVariants.{NameByte, Graphic, NumberByte, WordByte}
use Rattle.vlog_values.specs.declared.literal.Base.{Base}
use Rattle.vlog_values.specs.declared.literal.Base.TheVariants.{Binary, Octal, Decimal, Hex}
use Rattle.vlog_tokens.specs.declared.phase.Phase.{Phase}
use Rattle.vlog_tokens.specs.declared.phase.Phase.TheVariants.{Word, Escape, Escaped, Whole, Point, Fraction, Mark, Sign, Exponent, Prefix, Signed, Letter, Digits, Unknown, Grave, Directive}
use Rattle.vlog_tokens.specs.declared.phase.Step.{Step}
use Rattle.vlog_tokens.specs.declared.phase.Step.TheVariants.{Keep, Pass, Ends, Bad}

-- `e` or `E`, before an exponent (3.5.2)
abbrev pub is_mark : ℕ → Bool
is_mark b = b == 101 || b == 69

-- the sign of an exponent
abbrev pub is_sign : ℕ → Bool
is_sign b = b == 43 || b == 45

-- `x` or `z` in either case, or `?`, which is z (3.5.1)
abbrev pub is_open : ℕ → Bool
is_open b = b == 120 || b == 88 || b == 122 || b == 90 || b == 63

-- a byte from one to another
abbrev pub is_within : ℕ → ℕ → ℕ → Bool
is_within low high b = nat_le low b && nat_le b high

-- a digit of a base; a decimal is one `x`, `z` or `?` in place of such digits (3.5.1)
abbrev pub is_digit : Base → ℕ → Bool
is_digit Binary b = b == 48 || b == 49 || is_open b
is_digit Octal b = is_within 48 55 b || is_open b
is_digit Decimal b = is_ascii_digit b
is_digit Hex b = is_ascii_digit b || is_within 97 102 b || is_within 65 70 b || is_open b

-- the base that a letter names, in either case (3.5.1)
abbrev pub base_of : ℕ → Option Base
base_of b =
    if b == 98 || b == 66 then Some Binary
    else (if b == 111 || b == 79 then Some Octal
    else (if b == 100 || b == 68 then Some Decimal
    else (if b == 104 || b == 72 then Some Hex
    else None)))

abbrev pub letter_step : Option Base → Step
letter_step (Some base) = Keep (Letter base)
letter_step None = Bad

-- after `'` or `'s` the letter of a base has to stand
abbrev pub based_step : ℕ → Step
based_step b = letter_step (base_of b)

-- the first digit of a based literal, which is no `_`
abbrev pub first_digit : Base → ℕ → Step
first_digit Decimal b = if is_ascii_digit b then Keep (Digits Decimal) else (if is_open b then Keep Unknown else Bad)
first_digit base b = if is_digit base b then Keep (Digits base) else Bad

-- what the byte behind is to a token whose bytes so far are what the phase says
unfoldable pub next_step : Phase → ℕ → Step
next_step Word b = if is_name_byte b then Keep Word else Ends
next_step Escape b = if is_graphic b then Keep Escaped else Bad
next_step Escaped b = if is_graphic b then Keep Escaped else (if is_verilog_space b then Ends else Bad)
next_step Whole b = if is_number_byte b then Keep Whole else (if b == 46 then Keep Point else (if is_mark b then Keep Mark else Ends))
next_step Point b = if is_ascii_digit b then Keep Fraction else Bad
next_step Fraction b = if is_number_byte b then Keep Fraction else (if is_mark b then Keep Mark else Ends)
next_step Mark b = if is_ascii_digit b then Keep Exponent else (if is_sign b then Keep Sign else Bad)
next_step Sign b = if is_ascii_digit b then Keep Exponent else Bad
next_step Exponent b = if is_number_byte b then Keep Exponent else Ends
next_step Prefix b = if b == 115 || b == 83 then Keep Signed else based_step b
next_step Signed b = based_step b
next_step (Letter base) b = if is_verilog_space b then Pass (Letter base) else first_digit base b
next_step (Digits base) b = if is_digit base b || b == 95 then Keep (Digits base) else (if is_based_byte b then Bad else Ends)
next_step Unknown b = if b == 95 then Keep Unknown else (if is_based_byte b then Bad else Ends)
next_step Grave b = if is_ascii_alphabetic b || b == 95 then Keep Directive else Bad
next_step Directive b = if is_word_byte b then Keep Directive else Ends

-- whether the bytes so far are a token
unfoldable pub is_complete : Phase → Bool
is_complete Word = true
is_complete Escape = false
is_complete Escaped = true
is_complete Whole = true
is_complete Point = false
is_complete Fraction = true
is_complete Mark = false
is_complete Sign = false
is_complete Exponent = true
is_complete Prefix = false
is_complete Signed = false
is_complete (Letter base) = false
is_complete (Digits base) = true
is_complete Unknown = true
is_complete Grave = false
is_complete Directive = true

-- how many bytes of a token may be kept; white space within it and the `\` of a name are not
unfoldable pub most_of : Phase → ℕ
most_of Word = 1024
most_of Escape = 1024
most_of Escaped = 1024
most_of Whole = 131072
most_of Point = 131072
most_of Fraction = 131072
most_of Mark = 131072
most_of Sign = 131072
most_of Exponent = 131072
most_of Prefix = 131072
most_of Signed = 131072
most_of (Letter base) = 131072
most_of (Digits base) = 131072
most_of Unknown = 131072
most_of Grave = 1024
most_of Directive = 1024

-- the class of bytes that keep a token in its phase, where it is one of those that are read at once
unfoldable pub class_of : Phase → Option Class
class_of Word = Some NameByte
class_of Escape = None
class_of Escaped = Some Graphic
class_of Whole = Some NumberByte
class_of Point = None
class_of Fraction = Some NumberByte
class_of Mark = None
class_of Sign = None
class_of Exponent = Some NumberByte
class_of Prefix = None
class_of Signed = None
class_of (Letter base) = None
class_of (Digits base) = None
class_of Unknown = None
class_of Grave = None
class_of Directive = Some WordByte
