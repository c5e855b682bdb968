-- Forms, and how they are laid out in a text.
use Rattle.std.specs.Prelude.{ℕ, Bool, true, false, ℤ, List, [], ◌∷◌, ◌++◌, map, replicate}
use Rattle.std.specs.Fmt.{signed_decimal}
use Rattle.nl_base.specs.declared.number.Scaled.{Scaled}
use Rattle.vlog_values.specs.declared.literal.Based.{Based}
use Rattle.vlog_values.specs.declared.literal.Literal.{Literal}
use Rattle.vlog_values.specs.Spelling.{based_spelling, literal_spelling}
use Rattle.vlog_writer.specs.Spelling.{named, quoted, real_text}

infixr 60 ◌▸◌
mutual
  -- What is written on one line: nothing; a name, a keyword, a directive or a byte of punctuation; an integer, a real, a based literal
  -- with or without its size, or a string; a name of an object within another; two forms, one directly behind the other; a form and
  -- parts behind it, each after a blank; a list with commas; attributes; a form behind its attributes, if there are any.
  pub data Form : Type 0 where
    Empty : Form
    Name : List ℕ → Form
    Word : List ℕ → Form
    Directive : List ℕ → Form
    Mark : ℕ → Form
    Number : ℤ → Form
    Real : Scaled → Form
    Sized : Literal → Form
    Loose : Based → Form
    Str : List ℕ → Form
    Path : List ℕ → List ℕ → Form
    ◌▸◌ : Form → Form → Form
    Row : Form → Parts → Form
    Listed : Forms → Form
    Attributes : Forms → Form
    Attributed : Forms → Form → Form

  -- parts of a row: none, one, or some parts and then others
  pub data Parts : Type 0 where
    no_part : Parts
    part : Form → Parts
    both : Parts → Parts → Parts

  -- a list of forms
  pub data Forms : Type 0 where
    none : Forms
    more : Form → Forms → Forms

infixr 55 ◌below◌
-- What stands on lines of its own: nothing, a form at an indent, or lines and other lines below them.
pub data Lines : Type 0 where
  nothing : Lines
  line : ℕ → Form → Lines
  ◌below◌ : Lines → Lines → Lines

abbrev pub together : List Form → Forms
together [] = none
together (f ∷ fs) = more f (together fs)

-- the forms of a list's items
abbrev pub each : {I : Type 0} → (I → Form) → List I → Forms
each form is = together (map form is)

-- the lines of a list's items
abbrev pub all : {I : Type 0} → (I → Lines) → List I → Lines
all shape [] = nothing
all shape (i ∷ is) = shape i below all shape is

-- The bytes of a form, before what follows.
abbrev mutual
  pub inline : Form → List ℕ → List ℕ
  inline Empty rest = rest
  inline (Name name) rest = named name rest
  inline (Word word) rest = word ++ rest
  inline (Directive word) rest = word ++ rest
  inline (Mark b) rest = b ∷ rest
  inline (Number n) rest = signed_decimal n ++ rest
  inline (Real r) rest = real_text r rest
  inline (Sized literal) rest = literal_spelling literal ++ rest
  inline (Loose based) rest = based_spelling based ++ rest
  inline (Str s) rest = quoted s rest
  inline (Path outer name) rest = named outer (46 ∷ named name rest)
  inline (f ▸ g) rest = inline f (inline g rest)
  inline (Row f parts) rest = inline f (spaced parts rest)
  inline (Listed fs) rest = listed fs rest
  inline (Attributes fs) rest = 40 ∷ 42 ∷ 32 ∷ listed fs (32 ∷ 42 ∷ 41 ∷ rest)
  inline (Attributed fs f) rest = attributed fs (inline f rest)

  -- parts, each after a blank
  pub spaced : Parts → List ℕ → List ℕ
  spaced no_part rest = rest
  spaced (part f) rest = 32 ∷ inline f rest
  spaced (both ps qs) rest = spaced ps (spaced qs rest)

  -- forms with a comma and a blank between them
  pub listed : Forms → List ℕ → List ℕ
  listed none rest = rest
  listed (more f fs) rest = inline f (further fs rest)

  -- forms, each after a comma and a blank
  pub further : Forms → List ℕ → List ℕ
  further none rest = rest
  further (more f fs) rest = 44 ∷ 32 ∷ inline f (further fs rest)

  -- attributes in `(*` and `*)`, and a blank; nothing where there are none
  pub attributed : Forms → List ℕ → List ℕ
  attributed none rest = rest
  attributed (more f fs) rest = 40 ∷ 42 ∷ 32 ∷ inline f (further fs (32 ∷ 42 ∷ 41 ∷ 32 ∷ rest))

-- forms with commas between them, and one before the first or not
abbrev pub between : Bool → Forms → List ℕ → List ℕ
between true fs rest = further fs rest
between false fs rest = listed fs rest

-- a comma and a blank, where they are due
abbrev pub comma_where : Bool → List ℕ → List ℕ
comma_where true rest = 44 ∷ 32 ∷ rest
comma_where false rest = rest

-- an indent of so many blanks
abbrev pub blanks : ℕ → List ℕ
blanks n = replicate n 32

-- the bytes of lines, before what follows
abbrev pub laid : Lines → List ℕ → List ℕ
laid nothing rest = rest
laid (line n f) rest = blanks n ++ inline f (10 ∷ rest)
laid (lines below others) rest = laid lines (laid others rest)
