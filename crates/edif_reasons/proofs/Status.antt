-- What statuses read.
use Rattle.std.proofs.Common.{refl, List, [], ◌∷◌, Some, None, ℤ}
use Rattle.edif_values.specs.declared.keyword.Keyword.TheVariants as k
use Rattle.edif_values.specs.declared.written.WrittenItem.{WrittenItem}
use Rattle.edif_values.specs.declared.written.WrittenItem.TheVariants as written_items
use Rattle.edif_values.specs.declared.status.StatusItem.{StatusItem}
use Rattle.edif_values.specs.declared.status.StatusItem.TheVariants as status_items
use Rattle.edif_status.specs.Grammar.{clock, stamp, version_text, no_version, maybe_version, author, program, data_origin, written_item, written_keywords, written_rest, written, status_item, status_keywords, status_rest, status}
use Rattle.edif_reasons.proofs.Forms.{Ends, Reads, ReadsLast, ends_then, read_then, ends_as, reads_plainly, stays_string, stays_integer, ends_with, reads_last}
use Rattle.edif_reasons.proofs.Items.{Each, ends_item, ends_or, ends_items}
use Rattle.edif_reasons.proofs.Trees.{reads_notes}

ends_clock : (year month day : ℤ) → Ends (clock year month day)
unfolding clock
ends_clock year month day = ends_then stays_integer (λ hour. ends_then stays_integer (λ minute. ends_then stays_integer (λ second. ends_with _)))

ends_stamp : Ends stamp
unfolding stamp
ends_stamp = ends_then stays_integer (λ year. ends_then stays_integer (λ month. ends_then stays_integer (λ day. ends_clock year month day)))

-- STR ) ), after `( version`
reads_version_text : ReadsLast k.Version version_text
unfolding version_text
reads_version_text = reads_last (λ s. Some s) k.Version refl stays_string

ends_no_version : Ends no_version
unfolding no_version
ends_no_version = ends_with None

ends_maybe_version : Ends maybe_version
unfolding maybe_version
ends_maybe_version = ends_or (k.Version ∷ []) (λ _. version_text) no_version (reads_version_text, tt) ends_no_version

ends_author : Ends author
unfolding author
ends_author = ends_then stays_string (λ s. ends_with (written_items.Author s))

ends_program : Ends program
unfolding program
ends_program = ends_then stays_string (λ s. ends_as (λ v. written_items.Program s v) ends_maybe_version)

ends_data_origin : Ends data_origin
unfolding data_origin
ends_data_origin = ends_then stays_string (λ s. ends_as (λ v. written_items.DataOrigin s v) ends_maybe_version)

each_written : Each written_keywords (λ q. Reads q (written_item q))
each_written = (
  reads_plainly k.Author refl ends_author,
  (
    reads_plainly k.Program refl ends_program,
    (reads_plainly k.DataOrigin refl ends_data_origin, reads_notes written_items.Note),
  ),
)

ends_written_rest : (so_far : List WrittenItem) → Ends (written_rest so_far)
unfolding written_rest
ends_written_rest so_far = ends_items (λ _. written_keywords) written_item (λ _. each_written) so_far

ends_written : Ends written
unfolding written
ends_written = ends_item (k.TimeStamp ∷ []) _ (
  read_then k.TimeStamp (reads_plainly k.TimeStamp refl ends_stamp)
      (λ s. ends_as (λ is. record { stamp = s; items = is }) (ends_written_rest [])),
  tt,
)

each_status : Each status_keywords (λ q. Reads q (status_item q))
each_status = (reads_plainly k.Written refl (ends_as status_items.Written ends_written), reads_notes status_items.Note)

ends_status_rest : (so_far : List StatusItem) → Ends (status_rest so_far)
unfolding status_rest
ends_status_rest so_far = ends_items (λ _. status_keywords) status_item (λ _. each_status) so_far

ends_status : Ends status
unfolding status
ends_status = ends_as (λ is. record { items = is }) (ends_status_rest [])

pub reads_status : Reads k.Status status
reads_status = reads_plainly k.Status refl ends_status
