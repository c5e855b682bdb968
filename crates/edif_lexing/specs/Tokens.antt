-- The tokens of forms and blocks, and which of them can be written.
use Rattle.std.specs.Prelude.{⊤, List, [], ◌∷◌, ◌++◌}
use Rattle.edif_values.specs.Keywords.{spelling}
use Rattle.edif_values.specs.declared.token.Token.{Token}
use Rattle.edif_values.specs.declared.token.Token.TheVariants as t
use Rattle.edif_values.specs.Proper.{IsProper}
use Rattle.edif_writer.specs.Layout.{Form, Word, Number, Str, Line, Group, Forms, none, more, Block, Flat, Deep, Blocks, end, below}

abbrev mutual
  -- the tokens of a form
  pub tokens : Form → List Token
  tokens (Word w) = t.Word w ∷ []
  tokens (Number n) = t.Number n ∷ []
  tokens (Str s) = t.Str s ∷ []
  tokens (Line keyword parts) = t.LeftParen ∷ t.Word (spelling keyword) ∷ part_tokens parts
  tokens (Group parts) = t.LeftParen ∷ part_tokens parts

  -- those of a form's parts, and its end
  pub part_tokens : Forms → List Token
  part_tokens none = t.RightParen ∷ []
  part_tokens (more f fs) = tokens f ++ part_tokens fs

-- those of a block's first line, and others
abbrev pub heading_tokens : Forms → List Token → List Token
heading_tokens none ts = ts
heading_tokens (more f fs) ts = tokens f ++ heading_tokens fs ts

abbrev mutual
  -- the tokens of a block
  pub block_tokens : Block → List Token
  block_tokens (Flat f) = tokens f
  block_tokens (Deep keyword head blocks) = t.LeftParen ∷ t.Word (spelling keyword) ∷ heading_tokens head (line_tokens blocks)

  -- those of what stands below, and the block's end
  pub line_tokens : Blocks → List Token
  line_tokens end = t.RightParen ∷ []
  line_tokens (below b bs) = block_tokens b ++ line_tokens bs

abbrev mutual
  -- all words, integers and strings of a form are proper
  pub IsWritable : Form → Type 0
  IsWritable (Word w) = IsProper (t.Word w)
  IsWritable (Number n) = IsProper (t.Number n)
  IsWritable (Str s) = IsProper (t.Str s)
  IsWritable (Line keyword parts) = AreWritable parts
  IsWritable (Group parts) = AreWritable parts

  -- those of forms are
  pub AreWritable : Forms → Type 0
  AreWritable none = ⊤
  AreWritable (more f fs) = IsWritable f × AreWritable fs

abbrev mutual
  -- all words, integers and strings of a block are proper
  pub CanBeLaid : Block → Type 0
  CanBeLaid (Flat f) = IsWritable f
  CanBeLaid (Deep keyword head blocks) = AreWritable head × AllCanBeLaid blocks

  -- those of blocks are
  pub AllCanBeLaid : Blocks → Type 0
  AllCanBeLaid end = ⊤
  AllCanBeLaid (below b bs) = CanBeLaid b × AllCanBeLaid bs
