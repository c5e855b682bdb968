use Rattle.std.proofs.Common.{Err, refl}
use Rattle.std.proofs.lemmas.Result.{err_from_is_err_and}
use Rattle.edif_library.proofs.Sizes.{less_room}
use Rattle.edif_values.specs.Sizes.{library_item_size}
use Rattle.readers.specs.Readers.{same}
use Rattle.readers.proofs.Chain.{reads_then, reads_failed, maybe_reads}
use Rattle.edif_keywords.specs.Language.{edif}
use Rattle.edif_library.proofs.library.library_item.Goals as goal

pub returns-in_err-keyword : goal.returns-in_err-keyword
returns-in_err-keyword g c =
    let p = err_from_is_err_and c.from_residual.result c.from_residual.ensures.1 in
    rw (p.1, p.2) (record { reads = reads_failed edif same same _ _ (Err _) c.in_err-keyword.ensures.reads refl; value = tt; size = tt })

pub returns : goal.returns
returns g c = record {
  reads = reads_then edif same same _ _ c.library_form.result c.in_ok-keyword.ensures.reads (maybe_reads edif same _ _ _ _ _ _ c.library_form.ensures.reads);
  value = c.library_form.ensures.value;
  size = less_room library_item_size _ _ _ _ c.in_ok-keyword.ensures.reads.value.2 c.library_form.ensures.size;
}
