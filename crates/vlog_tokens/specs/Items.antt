-- What a name, a number, a real, a based literal or a directive is (IEEE 1364-2005, 3.5, 3.7 and 19).
use Rattle.std.specs.Prelude.{ℕ, ◌^◌, ℤ, Bool, true, false, not, ◌||◌, ◌==◌, nat_lt, if◌then◌else◌, drop, List, [], ◌∷◌, codes, Option, Some, None, Result, Ok}
use Rattle.std.specs.List.{filter}
use Rattle.nl_base.specs.declared.number.Scaled.{Scaled}
use Rattle.nl_base.specs.declared.fault.Reason.TheVariants.{NumberRange}
use Rattle.nl_base.specs.Case.{same_bytes}
use Rattle.vlog_values.specs.declared.literal.Base.{Base}
use Rattle.vlog_values.specs.declared.literal.Base.TheVariants.{Binary, Octal, Decimal, Hex}
use Rattle.vlog_tokens.specs.declared.token.VToken.{VToken}
use Rattle.vlog_tokens.specs.declared.token.VToken.TheVariants.{Name, Keyword, Number, Real, Directive}
use Rattle.vlog_tokens.specs.declared.token.VToken.TheVariants as tokens
use Rattle.vlog_tokens.specs.declared.item.Item.{Item}
use Rattle.vlog_tokens.specs.declared.item.Item.TheVariants.{Blank, Line, Token}
use Rattle.vlog_tokens.specs.declared.phase.Phase.{Phase}
use Rattle.vlog_tokens.specs.declared.phase.Phase.TheVariants as phases
use Rattle.nl_bytes.specs.Flaws.{Piece, Flaw, flaw}
use Rattle.vlog_tokens.specs.Keywords.{is_keyword}
use Rattle.vlog_tokens.specs.Numbers.{decimal_value, number_of, real_of}
use Rattle.vlog_tokens.specs.Scanning.{Lexeme}

-- a simple name that is in the list of keywords is that keyword
abbrev pub word_item : List ℕ → Item
word_item text = if is_keyword text then Token (Keyword text) else Token (Name text)

-- the same as a token
abbrev pub word_token : List ℕ → VToken
word_token text = if is_keyword text then Keyword text else Name text

abbrev pub number_item : Option ℤ → Option Item
number_item (Some n) = Some (Token (Number n))
number_item None = None

abbrev pub real_item : Option Scaled → Option Item
real_item (Some r) = Some (Token (Real r))
real_item None = None

-- whether `s` stands after the `'` of a based literal
abbrev pub is_signed : List ℕ → Bool
is_signed (quote ∷ b ∷ rest) = b == 115 || b == 83
is_signed (quote ∷ []) = false
is_signed [] = false

-- the byte is no `_`, which is left out of digits
abbrev pub is_kept : ℕ → Bool
is_kept b = not (b == 95)

-- the digits of a based literal, behind the letter of its base
abbrev pub digits_of : List ℕ → List ℕ
digits_of text = filter is_kept (drop (if is_signed text then 3 else 2) text)

-- digits of a decimal are a number below 2 ^ 128; a decimal's one `x`, `z` or `?` and the other bases have no such limit
abbrev pub has_value : Base → List ℕ → Bool
has_value Binary digits = true
has_value Octal digits = true
has_value Decimal digits = nat_lt (decimal_value digits) (2 ^ 128)
has_value Hex digits = true

abbrev pub based_item : Base → List ℕ → List ℕ → Option Item
based_item base text digits = if has_value base digits then Some (Token (tokens.Based (record { signed = is_signed text; base = base; digits = digits }))) else None

-- directives that are white space, of which `timescale` takes the rest of its line
abbrev pub directive_item : List ℕ → Item
directive_item text =
    if same_bytes text (codes "`timescale") then Line
    else (if same_bytes text (codes "`celldefine") || same_bytes text (codes "`endcelldefine") then Blank
    else Token (Directive text))

-- what complete bytes are; none where a number is too large
unfoldable pub item_of : Phase → List ℕ → Option Item
item_of phases.Word text = Some (word_item text)
item_of phases.Escape text = None
item_of phases.Escaped text = Some (Token (Name text))
item_of phases.Whole text = number_item (number_of text)
item_of phases.Point text = None
item_of phases.Fraction text = real_item (real_of text)
item_of phases.Mark text = None
item_of phases.Sign text = None
item_of phases.Exponent text = real_item (real_of text)
item_of phases.Prefix text = None
item_of phases.Signed text = None
item_of (phases.Letter base) text = None
item_of (phases.Digits base) text = based_item base text (digits_of text)
item_of phases.Unknown text = based_item Decimal text (digits_of text)
item_of phases.Grave text = None
item_of phases.Directive text = Some (directive_item text)

abbrev pub finished : Piece Lexeme → Option Item → Result (Piece Item) Flaw
finished x None = flaw NumberRange 0 x.seen
finished x (Some item) = Ok (record { value = item; count = x.count; seen = x.seen })

-- what the bytes of a token are
abbrev pub finish : Piece Lexeme → Result (Piece Item) Flaw
finish x = finished x (item_of x.value.phase x.value.text)
