use Rattle.std.proofs.Common.{Err, refl}
use Rattle.std.proofs.lemmas.Result.{err_from_is_err_and}
use Rattle.readers.specs.Readers.{same}
use Rattle.readers.proofs.Chain.{reads_then, reads_failed, reads_last, maybe_reads}
use Rattle.edif_keywords.specs.Language.{edif}
use Rattle.edif_library.specs.Grammar.{library_ref}
use Rattle.edif_library.proofs.design.library_ref.Goals as goal

pub returns-in_err-begin : goal.returns-in_err-begin
unfolding library_ref
returns-in_err-begin g c =
    let p = err_from_is_err_and c.from_residual.result c.from_residual.ensures.1 in
    rw (p.1, p.2) (record { reads = reads_failed edif same same _ _ (Err _) c.in_err-begin.ensures.reads refl; value = tt })

pub returns-in_err-word : goal.returns-in_err-word
unfolding library_ref
returns-in_err-word g c =
    let p = err_from_is_err_and c.from_residual-in_err-word.result c.from_residual-in_err-word.ensures.1 in
    rw (p.1, p.2) (record { reads = reads_then edif same same _ _ _ c.in_ok-begin.ensures.reads (maybe_reads edif same _ _ _ _ _ _ (reads_failed edif same same _ _ (Err _) c.in_err-word.ensures.reads refl)); value = tt })

pub returns-in_err-finish_form : goal.returns-in_err-finish_form
unfolding library_ref
returns-in_err-finish_form g c =
    let p = err_from_is_err_and c.from_residual-in_err-finish_form.result c.from_residual-in_err-finish_form.ensures.1 in
    rw (p.1, p.2) (record { reads = reads_then edif same same _ _ _ c.in_ok-begin.ensures.reads (maybe_reads edif same _ _ _ _ _ _ (reads_then edif same same _ _ _ c.in_ok-word.ensures.reads (maybe_reads edif same _ _ _ _ _ _ (reads_failed edif same same _ _ (Err _) c.in_err-finish_form.ensures refl)))); value = tt })

pub returns : goal.returns
unfolding library_ref
returns g c = record {
  reads = reads_then edif same same _ _ _ c.in_ok-begin.ensures.reads (maybe_reads edif same _ _ _ _ _ _ (reads_then edif same same _ _ _ c.in_ok-word.ensures.reads (maybe_reads edif same _ _ _ _ _ _ (reads_last edif same same _ _ _ _ _ _ _ _ _ refl refl c.in_ok-finish_form.ensures))));
  value = c.in_ok-word.ensures.value;
}
