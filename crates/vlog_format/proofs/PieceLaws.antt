-- A piece of a file of which the text is made as it is read.
use Rattle.std.proofs.Common.{refl, Bool, List, [], ◌∷◌, ◌++◌, Ok, Err}
use Rattle.nl_base.specs.declared.fault.ReadError.{ReadError}
use Rattle.nl_io.specs.Sources.{Supply}
use Rattle.readers.specs.Readers.{Reader, Reads, same}
use Rattle.vlog_values.specs.declared.module.Module.{Module}
use Rattle.vlog_tokens.specs.declared.token.VFound.{VFound}
use Rattle.vlog_tokens.specs.Language.{vlog}
use Rattle.vlog_exprs.specs.Language.{NoContext}
use Rattle.vlog_modules.specs.declared.file.Piece.TheVariants as forms
use Rattle.vlog_modules.specs.declared.file.SoFar.{SoFar}
use Rattle.vlog_modules.specs.Beginnings.{beginning, with_items}
use Rattle.vlog_modules.specs.Starts.{with_piece}
use Rattle.vlog_modules.proofs.Beginnings.{beginning_fails, directive_read, items_fail, module_read}
use Rattle.vlog_format.specs.declared.format.Made.{Made}
use Rattle.vlog_format.specs.declared.text.FileText.{FileText}
use Rattle.vlog_format.specs.Pieces.{FormatsItems, FormatsPiece, IsMadeOf}
use Rattle.vlog_format.specs.Texts.{IsTextOf, IsTextUpTo}

-- a directive is added to what is made
said_added : (made : Made) (said : Bool) (so_far : SoFar) → IsMadeOf made so_far → IsMadeOf (record { text = made.text; implicit = said }) (with_piece so_far (forms.Implicit said))
unfolding with_piece
said_added made said so_far are = record { implicit = refl; text = are.text }

-- a module whose text was made is added
module_added : (made : Made) (text : FileText) (m : Module) (so_far : SoFar) → IsMadeOf made so_far → IsTextOf text (so_far.modules ++ m ∷ []) → IsMadeOf (record { text = text; implicit = made.implicit }) (with_piece so_far (forms.Module m))
unfolding with_piece
module_added made text m so_far are is = record { implicit = are.implicit; text = is }

module _ (made : Made) (a b : Reader NoContext VFound) (i j : Supply) where
  pub beginning_failed : (e : ReadError) → Reads vlog same (beginning made.implicit) (Err e) a b i j → FormatsPiece made (Err e) a b i j
  beginning_failed e reads = (Err e, beginning_fails made.implicit a b i j e reads, refl)

  pub directive_made : (said : Bool) → Reads vlog same (beginning made.implicit) (Ok (forms.Implicit said)) a b i j → FormatsPiece made (Ok (record { text = made.text; implicit = said })) a b i j
  directive_made said reads = (Ok (forms.Implicit said), directive_read made.implicit a b i j said reads, (λ so_far are. said_added made said so_far are))

  module _ (heading : Module) (reads : Reads vlog same (beginning made.implicit) (Ok (forms.Module heading)) a b i j) (c : Reader NoContext VFound) (m : Supply) (begun text : FileText) where
    pub items_failed : (e : ReadError) → FormatsItems begun text (Err e) b c j m → FormatsPiece made (Err e) a c i m
    items_failed e (Err f, next, is) = (Err f, items_fail made.implicit a b i j heading reads c m f next, is)
    items_failed e (Ok list, next, is) = absurd is

    pub module_made : ((ms : List Module) → IsTextOf made.text ms → IsTextUpTo begun ms heading []) → (done : Unit {0}) → FormatsItems begun text (Ok done) b c j m → FormatsPiece made (Ok (record { text = text; implicit = made.implicit })) a c i m
    module_made begins done (Ok list, next, is) = (
      Ok (forms.Module (with_items heading list)),
      module_read made.implicit a b i j heading reads c m list next,
      (λ so_far are. module_added made text (with_items heading list) so_far are (is so_far.modules heading (begins so_far.modules are.text))),
    )
    module_made begins done (Err e, next, is) = absurd is
