-- The tokens of forms and lines, and which of them can be written.
use Rattle.std.specs.Prelude.{◌≡◌, ⊤, ℕ, ℤ, pos, negsuc, suc, ◌≤◌, Bool, true, false, ◌||◌, ◌&&◌, ◌==◌, not, List, [], ◌∷◌, ◌++◌, length, codes}
use Rattle.nl_base.specs.declared.number.Scaled.{Scaled}
use Rattle.vlog_values.specs.Bits.{IsBased}
use Rattle.vlog_values.specs.Values.{IsName, IsString, IsNumber, IsReal, IsLiteral}
use Rattle.vlog_tokens.specs.Keywords.{is_keyword}
use Rattle.vlog_tokens.specs.Spelling.{is_mark}
use Rattle.vlog_tokens.specs.declared.token.VToken.{VToken}
use Rattle.vlog_tokens.specs.declared.token.VToken.TheVariants as t
use Rattle.vlog_writer.specs.Layout.{Form, Empty, Name, Word, Directive, Mark, Number, Real, Sized, Loose, Str, Path, ◌▸◌, Row, Listed, Attributes, Attributed, Parts, no_part, part, both, Forms, none, more, Lines, nothing, line, ◌below◌}
use Rattle.vlog_writer.specs.Spelling.{is_simple}

-- an integer, with `-` in front of a negative one, before what follows
abbrev pub number_tokens : ℤ → List VToken → List VToken
number_tokens (pos n) ts = t.Number (pos n) ∷ ts
number_tokens (negsuc n) ts = t.Punct 45 ∷ t.Number (pos (suc n)) ∷ ts

-- a real of this mantissa and exponent, with `-` in front of a negative mantissa, before what follows
abbrev pub real_tokens : ℤ → ℤ → List VToken → List VToken
real_tokens (pos n) e ts = t.Real (record { mantissa = pos n; exponent = e }) ∷ ts
real_tokens (negsuc n) e ts = t.Punct 45 ∷ t.Real (record { mantissa = pos (suc n); exponent = e }) ∷ ts

abbrev mutual
  -- the tokens of a form, before what follows
  pub tokens : Form → List VToken → List VToken
  tokens Empty ts = ts
  tokens (Name name) ts = t.Name name ∷ ts
  tokens (Word word) ts = t.Keyword word ∷ ts
  tokens (Directive word) ts = t.Directive word ∷ ts
  tokens (Mark b) ts = t.Punct b ∷ ts
  tokens (Number n) ts = number_tokens n ts
  tokens (Real r) ts = real_tokens r.mantissa r.exponent ts
  tokens (Sized literal) ts = t.Number (pos literal.size) ∷ t.Based literal.based ∷ ts
  tokens (Loose based) ts = t.Based based ∷ ts
  tokens (Str s) ts = t.Str s ∷ ts
  tokens (Path outer name) ts = t.Name outer ∷ t.Punct 46 ∷ t.Name name ∷ ts
  tokens (f ▸ g) ts = tokens f (tokens g ts)
  tokens (Row f parts) ts = tokens f (part_tokens parts ts)
  tokens (Listed fs) ts = listed_tokens fs ts
  tokens (Attributes fs) ts = t.AttrStart ∷ listed_tokens fs (t.AttrStop ∷ ts)
  tokens (Attributed fs f) ts = attributed_tokens fs (tokens f ts)

  -- those of the parts of a row
  pub part_tokens : Parts → List VToken → List VToken
  part_tokens no_part ts = ts
  part_tokens (part f) ts = tokens f ts
  part_tokens (both ps qs) ts = part_tokens ps (part_tokens qs ts)

  -- those of forms with commas between them
  pub listed_tokens : Forms → List VToken → List VToken
  listed_tokens none ts = ts
  listed_tokens (more f fs) ts = tokens f (further_tokens fs ts)

  -- those of forms, each after a comma
  pub further_tokens : Forms → List VToken → List VToken
  further_tokens none ts = ts
  further_tokens (more f fs) ts = t.Punct 44 ∷ tokens f (further_tokens fs ts)

  -- those of attributes, if there are any
  pub attributed_tokens : Forms → List VToken → List VToken
  attributed_tokens none ts = ts
  attributed_tokens (more f fs) ts = t.AttrStart ∷ tokens f (further_tokens fs (t.AttrStop ∷ ts))

-- those of lines, before what follows
abbrev pub line_tokens : Lines → List VToken → List VToken
line_tokens nothing ts = ts
line_tokens (line n f) ts = tokens f ts
line_tokens (lines below others) ts = line_tokens lines (line_tokens others ts)

-- a byte of punctuation
abbrev pub is_punctuation : ℕ → Bool
is_punctuation b = b == 40 || is_mark b

-- a keyword
pub record IsWord (word : List ℕ) : Type 0 where
  pub simple : is_simple word ≡ true
  pub keyword : is_keyword word ≡ true
  pub short : length word ≤ 1024

-- whether a form is one byte of punctuation, behind which any form may stand
abbrev pub is_alone : Form → Bool
is_alone (Mark b) = true
is_alone f = false

-- whether a form begins with punctuation other than `.`, which may stand behind any form
abbrev pub begins_apart : Form → Bool
begins_apart (Mark b) = is_punctuation b && not (b == 46)
begins_apart (f ▸ g) = begins_apart f
begins_apart f = false

abbrev mutual
  -- All names, keywords, numbers, literals and strings of a form are such, and no two of them touch.
  pub IsWritable : Form → Type 0
  IsWritable Empty = ⊤
  IsWritable (Name name) = IsName name
  IsWritable (Word word) = IsWord word
  IsWritable (Directive word) = word ≡ codes "`default_nettype"
  IsWritable (Mark b) = is_punctuation b ≡ true
  IsWritable (Number n) = IsNumber n
  IsWritable (Real r) = IsReal r
  IsWritable (Sized literal) = IsLiteral literal
  IsWritable (Loose based) = IsBased based
  IsWritable (Str s) = IsString s
  IsWritable (Path outer name) = IsName outer × IsName name
  IsWritable (f ▸ g) = IsWritable f × IsWritable g × ((is_alone f || begins_apart g) ≡ true)
  IsWritable (Row f parts) = IsWritable f × AreParts parts
  IsWritable (Listed fs) = AreWritable fs
  IsWritable (Attributes fs) = AreWritable fs
  IsWritable (Attributed fs f) = AreWritable fs × IsWritable f

  -- the same of the parts of a row
  pub AreParts : Parts → Type 0
  AreParts no_part = ⊤
  AreParts (part f) = IsWritable f
  AreParts (both ps qs) = AreParts ps × AreParts qs

  -- the same of forms
  pub AreWritable : Forms → Type 0
  AreWritable none = ⊤
  AreWritable (more f fs) = IsWritable f × AreWritable fs

-- the same of lines
abbrev pub CanBeLaid : Lines → Type 0
CanBeLaid nothing = ⊤
CanBeLaid (line n f) = IsWritable f
CanBeLaid (lines below others) = CanBeLaid lines × CanBeLaid others
