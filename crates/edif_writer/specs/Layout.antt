-- Forms, and how they are laid out in a text.
use Rattle.std.specs.Prelude.{ℕ, Bool, true, false, ℤ, ◌+◌, List, [], ◌∷◌, ◌++◌, map, replicate}
use Rattle.std.specs.Fmt.{signed_decimal}
use Rattle.edif_values.specs.declared.keyword.Keyword.{Keyword}
use Rattle.edif_values.specs.Keywords.{spelling}
use Rattle.edif_writer.specs.Strings.{quoted}

mutual
  -- what is written on one line: a word, an integer, a string, `(keyword part ..)` or `(part ..)`
  pub data Form : Type 0 where
    Word : List ℕ → Form
    Number : ℤ → Form
    Str : List ℕ → Form
    Line : Keyword → Forms → Form
    Group : Forms → Form

  -- a list of forms
  pub data Forms : Type 0 where
    none : Forms
    more : Form → Forms → Forms

mutual
  -- what stands on lines of its own: a form, or a block, with parts in its first line, and blocks and lines below
  pub data Block : Type 0 where
    Flat : Form → Block
    Deep : Keyword → Forms → Blocks → Block

  -- a list of blocks
  pub data Blocks : Type 0 where
    end : Blocks
    below : Block → Blocks → Blocks

abbrev pub together : List Form → Forms
together [] = none
together (f ∷ fs) = more f (together fs)

-- the forms of a list's items
abbrev pub each : {I : Type 0} → (I → Form) → List I → Forms
each form is = together (map form is)

-- the blocks of a list's items
abbrev pub all : {I : Type 0} → (I → Block) → List I → Blocks
all block [] = end
all block (i ∷ is) = below (block i) (all block is)

-- The bytes of a form, before what follows: a keyword and its parts have one blank between them.
abbrev mutual
  pub inline : Form → List ℕ → List ℕ
  inline (Word w) rest = w ++ rest
  inline (Number n) rest = signed_decimal n ++ rest
  inline (Str s) rest = quoted s rest
  inline (Line keyword parts) rest = 40 ∷ (spelling keyword ++ spaced parts (41 ∷ rest))
  inline (Group parts) rest = 40 ∷ listed parts (41 ∷ rest)

  -- parts, each after a blank
  pub spaced : Forms → List ℕ → List ℕ
  spaced none rest = rest
  spaced (more f fs) rest = 32 ∷ inline f (spaced fs rest)

  -- parts with blanks between them
  pub listed : Forms → List ℕ → List ℕ
  listed none rest = rest
  listed (more f fs) rest = inline f (spaced fs rest)

-- parts with blanks between them, the first after a blank or not
abbrev pub between : Bool → Forms → List ℕ → List ℕ
between true fs rest = spaced fs rest
between false fs rest = listed fs rest

-- a blank, where one is due
abbrev pub blank_where : Bool → List ℕ → List ℕ
blank_where true rest = 32 ∷ rest
blank_where false rest = rest

-- an indent of so many blanks
abbrev pub blanks : ℕ → List ℕ
blanks n = replicate n 32

-- The bytes of a block at its indent, before what follows: its first line, what stands below with two blanks more, and the line of its `)`.
abbrev mutual
  pub laid : ℕ → Block → List ℕ → List ℕ
  laid n (Flat f) rest = blanks n ++ inline f (10 ∷ rest)
  laid n (Deep keyword head blocks) rest =
      blanks n ++ (40 ∷ (spelling keyword ++ spaced head (10 ∷ lines (n + 2) blocks (blanks n ++ (41 ∷ 10 ∷ rest)))))

  -- blocks at one indent
  pub lines : ℕ → Blocks → List ℕ → List ℕ
  lines n end rest = rest
  lines n (below b bs) rest = laid n b (lines n bs rest)
