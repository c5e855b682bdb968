-- How names, strings and reals are written (IEEE 1364-2005, 3.5.2, 3.6 and 3.7).
use Rattle.std.specs.Prelude.{ℕ, ◌+◌, ◌/◌, ◌%◌, Bool, true, false, ◌&&◌, ◌||◌, ◌==◌, not, nat_le, if◌then◌else◌, List, [], ◌∷◌, ◌++◌}
use Rattle.std.specs.Char.{is_ascii_alphabetic}
use Rattle.std.specs.Fmt.{signed_decimal}
use Rattle.std.specs.List.{list_all}
use Rattle.nl_base.specs.declared.number.Scaled.{Scaled}
use Rattle.nl_bytes.specs.Classes.{is_name_byte}
use Rattle.nl_output.specs.Writing.{Begin, State, ToCome}
use Rattle.vlog_tokens.specs.Keywords.{is_keyword}

-- a simple identifier: a letter or `_`, then letters, digits, `_` and `$` (3.7)
unfoldable pub is_simple : List ℕ → Bool
is_simple [] = false
is_simple (b ∷ bs) = (is_ascii_alphabetic b || b == 95) && list_all is_name_byte bs

-- a name that is written as itself: a simple identifier that is no keyword (3.7, 3.7.2)
unfoldable pub is_bare : List ℕ → Bool
is_bare name = is_simple name && not (is_keyword name)

-- a name before what follows: as itself, or as an escaped identifier, which one blank ends (3.7.1)
abbrev pub named : List ℕ → List ℕ → List ℕ
named name rest = if is_bare name then name ++ rest else 92 ∷ (name ++ (32 ∷ rest))

-- what stands for itself in a written string: the bytes 32 to 126 other than `"` and `\`
unfoldable pub is_plain : ℕ → Bool
is_plain b = nat_le 32 b && nat_le b 126 && not (b == 34) && not (b == 92)

-- the three octal digits of a byte
abbrev pub octal : ℕ → List ℕ
octal b = (48 + b / 64) ∷ (48 + b / 8 % 8) ∷ (48 + b % 8) ∷ []

-- what stands for another byte, behind a `\`: the byte itself, `n`, `t`, or three octal digits (3.6, table 3-1)
abbrev pub escape_of : ℕ → List ℕ
escape_of b =
    if b == 34 || b == 92 then b ∷ []
    else (if b == 10 then 110 ∷ []
    else (if b == 9 then 116 ∷ []
    else octal b))

-- a byte of a string
unfoldable pub string_byte : ℕ → List ℕ
string_byte b = if is_plain b then b ∷ [] else 92 ∷ escape_of b

-- the bytes of a string and its end, before what follows
abbrev pub written : List ℕ → List ℕ → List ℕ
written [] rest = 34 ∷ rest
written (b ∷ bs) rest = string_byte b ++ written bs rest

-- a string in quotes, before what follows (3.6)
abbrev pub quoted : List ℕ → List ℕ → List ℕ
quoted s rest = 34 ∷ written s rest

-- Of a text that comes next, whatever follows it, a rest is to come.
abbrev pub PutsUntil : (List ℕ → List ℕ) → (List ℕ → List ℕ) → State → State → Type 0
PutsUntil text left old new = (b : Begin) (rest : List ℕ) → ToCome b old (text rest) → ToCome b new (left rest)

-- a real: the mantissa, `e`, the exponent (3.5.2)
abbrev pub real_text : Scaled → List ℕ → List ℕ
real_text r rest = signed_decimal r.mantissa ++ (101 ∷ (signed_decimal r.exponent ++ rest))
