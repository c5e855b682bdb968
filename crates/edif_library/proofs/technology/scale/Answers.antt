use Rattle.std.proofs.Common.{Err, refl}
use Rattle.std.proofs.lemmas.Result.{err_from_is_err_and}
use Rattle.readers.specs.Readers.{same}
use Rattle.readers.proofs.Chain.{reads_then, reads_failed, reads_last, maybe_reads}
use Rattle.edif_keywords.specs.Language.{edif}
use Rattle.edif_library.specs.Grammar.{scale}
use Rattle.edif_library.proofs.technology.scale.Goals as goal

pub returns-in_err-left : goal.returns-in_err-left
unfolding scale
returns-in_err-left g c =
    let p = err_from_is_err_and c.from_residual.result c.from_residual.ensures.1 in
    rw (p.1, p.2) (record { reads = reads_failed edif same same _ _ (Err _) c.in_err-left.ensures.reads refl; value = tt })

pub returns-in_err-right : goal.returns-in_err-right
unfolding scale
returns-in_err-right g c =
    let p = err_from_is_err_and c.from_residual-in_err-right.result c.from_residual-in_err-right.ensures.1 in
    rw (p.1, p.2) (record { reads = reads_then edif same same _ _ _ c.in_ok-left.ensures.reads (maybe_reads edif same _ _ _ _ _ _ (reads_failed edif same same _ _ (Err _) c.in_err-right.ensures.reads refl)); value = tt })

pub returns-in_err-unit : goal.returns-in_err-unit
unfolding scale
returns-in_err-unit g c =
    let p = err_from_is_err_and c.from_residual-in_err-unit.result c.from_residual-in_err-unit.ensures.1 in
    rw (p.1, p.2) (record { reads = reads_then edif same same _ _ _ c.in_ok-left.ensures.reads (maybe_reads edif same _ _ _ _ _ _ (reads_then edif same same _ _ _ c.in_ok-right.ensures.reads (maybe_reads edif same _ _ _ _ _ _ (reads_failed edif same same _ _ (Err _) c.in_err-unit.ensures.reads refl)))); value = tt })

pub returns-in_err-finish_form : goal.returns-in_err-finish_form
unfolding scale
returns-in_err-finish_form g c =
    let p = err_from_is_err_and c.from_residual-in_err-finish_form.result c.from_residual-in_err-finish_form.ensures.1 in
    rw (p.1, p.2) (record { reads = reads_then edif same same _ _ _ c.in_ok-left.ensures.reads (maybe_reads edif same _ _ _ _ _ _ (reads_then edif same same _ _ _ c.in_ok-right.ensures.reads (maybe_reads edif same _ _ _ _ _ _ (reads_then edif same same _ _ _ c.in_ok-unit.ensures.reads (maybe_reads edif same _ _ _ _ _ _ (reads_failed edif same same _ _ (Err _) c.in_err-finish_form.ensures refl)))))); value = tt })

pub returns : goal.returns
unfolding scale
returns g c = record {
  reads = reads_then edif same same _ _ _ c.in_ok-left.ensures.reads (maybe_reads edif same _ _ _ _ _ _ (reads_then edif same same _ _ _ c.in_ok-right.ensures.reads (maybe_reads edif same _ _ _ _ _ _ (reads_then edif same same _ _ _ c.in_ok-unit.ensures.reads (maybe_reads edif same _ _ _ _ _ _ (reads_last edif same same _ _ _ _ _ _ _ _ _ refl refl c.in_ok-finish_form.ensures))))));
  value = record { left = c.in_ok-left.ensures.value; right = c.in_ok-right.ensures.value; unit = c.in_ok-unit.ensures.value };
}
