use Rattle.std.proofs.Common.{Err, refl}
use Rattle.std.proofs.lemmas.Result.{err_from_is_err_and}
use Rattle.readers.specs.Readers.{same}
use Rattle.readers.proofs.Chain.{reads_then, reads_failed, maybe_reads}
use Rattle.edif_keywords.specs.Language.{edif}
use Rattle.edif_library.proofs.technology.scale_item.Goals as goal

pub returns-in_err-begin : goal.returns-in_err-begin
returns-in_err-begin g c =
    let p = err_from_is_err_and c.from_residual.result c.from_residual.ensures.1 in
    rw (p.1, p.2) (record { reads = reads_failed edif same same _ _ (Err _) c.in_err-begin.ensures.reads refl; value = tt })

pub returns : goal.returns
returns g c = record {
  reads = reads_then edif same same _ _ c.scale.result c.in_ok-begin.ensures.reads (maybe_reads edif same _ _ _ _ _ _ c.scale.ensures.reads);
  value = c.scale.ensures.value;
}
