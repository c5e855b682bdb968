-- The tokens that a text of bytes can have (IEEE 1364-2005, 3.5 to 3.7).
use Rattle.std.specs.Prelude.{⊤, ℕ, pos, ◌≤ℤ◌, ◌<◌, List}
use Rattle.std.specs.List.{AllByRecursion}
use Rattle.grammar.specs.Whole.{Terminal, proper, end}
use Rattle.nl_base.specs.declared.number.Scaled.{Scaled}
use Rattle.nl_base.specs.declared.place.Place.{Place}
use Rattle.vlog_tokens.specs.declared.token.VFound.{VFound}
use Rattle.vlog_tokens.specs.declared.token.VToken.{VToken}
use Rattle.vlog_tokens.specs.declared.token.VToken.TheVariants as token
use Rattle.vlog_tokens.specs.declared.item.Item.{Item}
use Rattle.vlog_tokens.specs.declared.item.Item.TheVariants.{Blank, Line, Token}
use Rattle.vlog_values.specs.Bits.{IsBased}
use Rattle.vlog_values.specs.Values.{IsName, IsString, IsCount, IsReal}

-- each of these numbers is one of a byte
abbrev pub AreBytes : List ℕ → Type 0
AreBytes bs = AllByRecursion (λ b. b < 256) bs

-- a real without a sign (3.5.2)
pub record IsPlainReal (r : Scaled) : Type 0 where
  pub real : IsReal r
  pub sign : pos 0 ≤ℤ r.mantissa

-- what a token of a text keeps: a name has 1 to 1,024 printed bytes (3.7), a number is 0 to 2^63-1 and a real has such a mantissa and an
-- exponent of an absolute value of at most 2^63-1 (3.5.2), based digits are those of their base and not too long (3.5.1), and a string has
-- at most 1,048,576 bytes (3.6)
abbrev pub IsProper : VToken → Type 0
IsProper (token.Name n) = IsName n
IsProper (token.Keyword w) = ⊤
IsProper (token.Number n) = IsCount n
IsProper (token.Real r) = IsPlainReal r
IsProper (token.Based d) = IsBased d
IsProper (token.Str s) = IsString s
IsProper (token.Punct b) = ⊤
IsProper token.AttrStart = ⊤
IsProper token.AttrStop = ⊤
IsProper (token.Symbol b) = ⊤
IsProper (token.Directive w) = ⊤

-- white space or such a token
abbrev pub IsProperItem : Item → Type 0
IsProperItem Blank = ⊤
IsProperItem Line = ⊤
IsProperItem (Token t) = IsProper t

-- such a token, or the end of the input
abbrev pub IsSound : Terminal VFound Place → Type 0
IsSound (proper x) = IsProper x.token
IsSound (end p) = ⊤

-- all these are such
abbrev pub AreSound : List (Terminal VFound Place) → Type 0
AreSound ts = AllByRecursion IsSound ts
