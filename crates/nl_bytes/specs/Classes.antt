-- Classes of bytes, of which the tokens of EDIF 2 0 0 and of Verilog (IEEE 1364-2005, 3) have runs.
use Rattle.std.specs.Prelude.{ℕ, Bool, ◌||◌, ◌&&◌, ◌==◌, not, nat_le, List, IsTrue}
use Rattle.std.specs.Char.{is_ascii_digit, is_ascii_alphabetic}
use Rattle.std.specs.List.{AllByRecursion}
use Rattle.nl_bytes.specs.declared.class.Class.{Class}
use Rattle.nl_bytes.specs.declared.class.Class.TheVariants.{Space, Digit, WordByte, StringByte, VerilogSpace, NameByte, NumberByte, BasedByte, Graphic, VerilogStringByte, LineByte, CommentByte}

-- white space of EDIF: tab, line feed, carriage return, blank
abbrev pub is_space : ℕ → Bool
is_space b = b == 9 || b == 10 || b == 13 || b == 32

-- a letter, a digit or `_`
abbrev pub is_word_byte : ℕ → Bool
is_word_byte b = is_ascii_alphabetic b || is_ascii_digit b || b == 95

-- what stands for itself in a string of EDIF: neither `"` nor `%`
abbrev pub is_string_byte : ℕ → Bool
is_string_byte b = is_space b || (nat_le 33 b && nat_le b 126 && not (b == 34) && not (b == 37)) || nat_le 128 b

-- white space of Verilog: that of EDIF and the form feed (3.2)
abbrev pub is_verilog_space : ℕ → Bool
is_verilog_space b = b == 9 || b == 10 || b == 12 || b == 13 || b == 32

-- a letter, a digit, `_` or `$`, which go on in an identifier (3.7)
abbrev pub is_name_byte : ℕ → Bool
is_name_byte b = is_word_byte b || b == 36

-- a digit or `_`, which go on in an unsigned number (3.5.1)
abbrev pub is_number_byte : ℕ → Bool
is_number_byte b = is_ascii_digit b || b == 95

-- a letter, a digit, `_` or `?`, which go on in the digits of a based number (3.5.1)
abbrev pub is_based_byte : ℕ → Bool
is_based_byte b = is_word_byte b || b == 63

-- a printed byte, which goes on in an escaped identifier (3.7.1)
abbrev pub is_graphic : ℕ → Bool
is_graphic b = nat_le 33 b && nat_le b 126

-- what stands for itself in a string of Verilog: neither `"` nor `\` (3.6)
abbrev pub is_verilog_string_byte : ℕ → Bool
is_verilog_string_byte b = (b == 9 || (nat_le 32 b && nat_le b 126) || nat_le 128 b) && not (b == 34) && not (b == 92)

-- any byte but the line feed, which ends a one-line comment (3.3)
abbrev pub is_line_byte : ℕ → Bool
is_line_byte b = not (b == 10)

-- any byte but `*`, which begins the end of a block comment (3.3)
abbrev pub is_comment_byte : ℕ → Bool
is_comment_byte b = not (b == 42)

-- whether a byte is in a class
abbrev pub in_class : Class → ℕ → Bool
in_class Space = is_space
in_class Digit = is_ascii_digit
in_class WordByte = is_word_byte
in_class StringByte = is_string_byte
in_class VerilogSpace = is_verilog_space
in_class NameByte = is_name_byte
in_class NumberByte = is_number_byte
in_class BasedByte = is_based_byte
in_class Graphic = is_graphic
in_class VerilogStringByte = is_verilog_string_byte
in_class LineByte = is_line_byte
in_class CommentByte = is_comment_byte

-- all these bytes are in a class
abbrev pub AreIn : Class → List ℕ → Type 0
AreIn class bs = AllByRecursion (λ b. IsTrue (in_class class b)) bs
