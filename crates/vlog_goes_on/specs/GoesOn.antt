-- Tokens that some bytes spell, and what can be gone on with by such tokens (IEEE 1364-2005, 3 and
-- A.1.2).
use Rattle.std.specs.Prelude.{◌≡◌, ⊤, ◌≤◌, ◌||◌, ◌==◌, ℕ, Bool, true, List, ◌∷◌, length}
use Rattle.std.specs.Char.{is_ascii_alphabetic}
use Rattle.std.specs.List.{list_all}
use Rattle.grammar.specs.Whole.{Terminal, proper, end, whole}
use Rattle.grammar_laws.specs.GoesOn.{BeginsBy}
use Rattle.nl_base.specs.declared.place.Place.{Place}
use Rattle.nl_bytes.specs.Classes.{is_word_byte}
use Rattle.vlog_values.specs.Bits.{IsBased}
use Rattle.vlog_values.specs.Values.{IsName, IsCount, IsString}
use Rattle.vlog_tokens.specs.Items.{directive_item}
use Rattle.vlog_tokens.specs.Spelling.{is_symbol}
use Rattle.vlog_tokens.specs.declared.item.Item.TheVariants.{Token}
use Rattle.vlog_tokens.specs.declared.token.VFound.{VFound}
use Rattle.vlog_tokens.specs.declared.token.VToken.{VToken}
use Rattle.vlog_tokens.specs.declared.token.VToken.TheVariants as token
use Rattle.vlog_tokens.specs.Proper.{IsPlainReal}
use Rattle.vlog_exprs.specs.Reasons.{trailing}
use Rattle.vlog_modules.specs.Grammar.{file}
use Rattle.vlog_lexing.specs.Tokens.{IsWord, is_punctuation}

-- a symbol of an operator: a byte that is no punctuation; `*` and `/` are such where they begin no
-- `*)` and no comment
abbrev pub is_operator : ℕ → Bool
is_operator b = is_symbol b || b == 42 || b == 47

-- a directive: a backtick, and a simple name without `$` of at most 1,024 bytes in all; some
-- directives are white space and no token (19)
pub record IsDirective (w : List ℕ) : Type 0 where
  pub first : ℕ
  pub rest : List ℕ
  pub spelled : w ≡ 96 ∷ first ∷ rest
  pub begins : (is_ascii_alphabetic first || first == 95) ≡ true
  pub follows : list_all is_word_byte rest ≡ true
  pub short : length w ≤ 1024
  pub is_token : directive_item w ≡ Token (token.Directive w)

-- a token that some bytes spell
abbrev pub IsOfBytes : VToken → Type 0
IsOfBytes (token.Name n) = IsName n
IsOfBytes (token.Keyword w) = IsWord w
IsOfBytes (token.Number n) = IsCount n
IsOfBytes (token.Real r) = IsPlainReal r
IsOfBytes (token.Based d) = IsBased d
IsOfBytes (token.Str s) = IsString s
IsOfBytes (token.Punct b) = is_punctuation b ≡ true
IsOfBytes token.AttrStart = ⊤
IsOfBytes token.AttrStop = ⊤
IsOfBytes (token.Symbol b) = is_operator b ≡ true
IsOfBytes (token.Directive w) = IsDirective w

-- such a token, or the end of the input
abbrev pub CanStand : Terminal VFound Place → Type 0
CanStand (proper x) = IsOfBytes x.token
CanStand (end p) = Unit {0}

-- such tokens go on with these to a file
abbrev pub GoesOn : List (Terminal VFound Place) → Type 0
GoesOn ts = BeginsBy CanStand tt (whole trailing file) ts
