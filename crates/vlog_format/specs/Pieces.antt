-- A text that is made as the pieces of a file are read.
use Rattle.std.specs.Prelude.{◌≡◌, ◌++◌, ◌∷◌, [], List, Result, Ok, Err}
use Rattle.nl_base.specs.declared.fault.ReadError.{ReadError}
use Rattle.nl_io.specs.Sources.{Supply}
use Rattle.readers.specs.Readers.{Reader, Reads, same}
use Rattle.vlog_values.specs.declared.module.ItemV.{ItemV}
use Rattle.vlog_values.specs.declared.module.Module.{Module}
use Rattle.vlog_tokens.specs.declared.token.VFound.{VFound}
use Rattle.vlog_tokens.specs.Language.{vlog}
use Rattle.vlog_exprs.specs.Language.{NoContext}
use Rattle.vlog_modules.specs.declared.file.Piece.{Piece}
use Rattle.vlog_modules.specs.declared.file.SoFar.{SoFar}
use Rattle.vlog_modules.specs.Beginnings.{with_items}
use Rattle.vlog_modules.specs.Grammar.{items}
use Rattle.vlog_modules.specs.Starts.{piece, with_piece}
use Rattle.vlog_format.specs.declared.format.Made.{Made}
use Rattle.vlog_format.specs.declared.text.FileText.{FileText}
use Rattle.vlog_format.specs.Texts.{IsTextOf, IsTextUpTo}

-- what is made stands for the modules so far, and for what the directives say of the next
pub record IsMadeOf (made : Made) (so_far : SoFar) : Type 0 where
  pub implicit : made.implicit ≡ so_far.implicit
  pub text : IsTextOf made.text so_far.modules

-- of items that were read the text is made behind the heading of their module, and of an error the same error is answered
abbrev pub AreItemsMade : FileText → FileText → Result (List ItemV) ReadError → Result (Unit {0}) ReadError → Type 0
AreItemsMade before after (Ok list) (Ok done) = (ms : List Module) (heading : Module) → IsTextUpTo before ms heading [] → IsTextOf after (ms ++ with_items heading list ∷ [])
AreItemsMade before after (Err e) (Err f) = e ≡ f
AreItemsMade before after (Ok list) (Err f) = ⊥
AreItemsMade before after (Err e) (Ok done) = ⊥

-- The items of a module are read up to its end, and their text is made.
abbrev pub FormatsItems : FileText → FileText → Result (Unit {0}) ReadError → Reader NoContext VFound → Reader NoContext VFound → Supply → Supply → Type 0
FormatsItems before after result old new i j = (read : Result (List ItemV) ReadError) × Reads vlog same (items []) read old new i j × AreItemsMade before after read result

-- a piece that was read is added to what is made, and of an error the same error is answered
abbrev pub IsPieceMade : Made → Result Piece ReadError → Result Made ReadError → Type 0
IsPieceMade before (Ok p) (Ok after) = (so_far : SoFar) → IsMadeOf before so_far → IsMadeOf after (with_piece so_far p)
IsPieceMade before (Err e) (Err f) = e ≡ f
IsPieceMade before (Ok p) (Err f) = ⊥
IsPieceMade before (Err e) (Ok after) = ⊥

-- A piece of a file is read, and the text of its module is made.
abbrev pub FormatsPiece : Made → Result Made ReadError → Reader NoContext VFound → Reader NoContext VFound → Supply → Supply → Type 0
FormatsPiece before result old new i j = (read : Result Piece ReadError) × Reads vlog same (piece before.implicit) read old new i j × IsPieceMade before read result
