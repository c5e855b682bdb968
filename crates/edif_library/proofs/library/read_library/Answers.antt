use Rattle.std.proofs.Common.{Err, refl, arith}
use Rattle.std.proofs.lemmas.Result.{err_from_is_err_and}
use Rattle.readers.specs.Readers.{same}
use Rattle.readers.proofs.Chain.{reads_then, reads_failed, reads_last, maybe_reads}
use Rattle.edif_keywords.specs.Language.{edif}
use Rattle.edif_library.specs.Grammar.{library}
use Rattle.edif_library.proofs.library.read_library.Goals as goal

pub returns-in_err-name : goal.returns-in_err-name
unfolding library
returns-in_err-name g c =
    let p = err_from_is_err_and c.from_residual.result c.from_residual.ensures.1 in
    rw (p.1, p.2) (record { reads = reads_failed edif same same _ _ (Err _) c.in_err-name.ensures.reads refl; value = tt; size = tt })

pub returns-in_err-level : goal.returns-in_err-level
unfolding library
returns-in_err-level g c =
    let p = err_from_is_err_and c.from_residual-in_err-level.result c.from_residual-in_err-level.ensures.1 in
    rw (p.1, p.2) (record { reads = reads_then edif same same _ _ _ c.in_ok-name.ensures.reads (maybe_reads edif same _ _ _ _ _ _ (reads_failed edif same same _ _ (Err _) c.in_err-level.ensures refl)); value = tt; size = tt })

pub returns-in_err-scales : goal.returns-in_err-scales
unfolding library
returns-in_err-scales g c =
    let p = err_from_is_err_and c.from_residual-in_err-scales.result c.from_residual-in_err-scales.ensures.1 in
    rw (p.1, p.2) (record { reads = reads_then edif same same _ _ _ c.in_ok-name.ensures.reads (maybe_reads edif same _ _ _ _ _ _ (reads_then edif same same _ _ _ c.in_ok-level.ensures (maybe_reads edif same _ _ _ _ _ _ (reads_failed edif same same _ _ (Err _) c.in_err-scales.ensures.reads refl)))); value = tt; size = tt })

pub returns-in_err-items : goal.returns-in_err-items
unfolding library
returns-in_err-items g c =
    let p = err_from_is_err_and c.from_residual-in_err-items.result c.from_residual-in_err-items.ensures.1 in
    rw (p.1, p.2) (record { reads = reads_then edif same same _ _ _ c.in_ok-name.ensures.reads (maybe_reads edif same _ _ _ _ _ _ (reads_then edif same same _ _ _ c.in_ok-level.ensures (maybe_reads edif same _ _ _ _ _ _ (reads_then edif same same _ _ _ c.in_ok-scales.ensures.reads (maybe_reads edif same _ _ _ _ _ _ (reads_failed edif same same _ _ (Err _) c.in_err-items.ensures.reads refl)))))); value = tt; size = tt })

pub returns : goal.returns
unfolding library
returns g c = record {
  reads = reads_then edif same same _ _ _ c.in_ok-name.ensures.reads (maybe_reads edif same _ _ _ _ _ _ (reads_then edif same same _ _ _ c.in_ok-level.ensures (maybe_reads edif same _ _ _ _ _ _ (reads_then edif same same _ _ _ c.in_ok-scales.ensures.reads (maybe_reads edif same _ _ _ _ _ _ (reads_last edif same same _ _ _ _ _ _ _ _ _ refl refl c.in_ok-items.ensures.reads))))));
  value = record { name = c.in_ok-name.ensures.value; scales = c.in_ok-scales.ensures.value.0; notes = c.in_ok-scales.ensures.value.1; items = c.in_ok-items.ensures.value };
  size = omega (arith, c.in_ok-name.ensures.reads.value.2, c.in_ok-level.ensures.value.2, c.in_ok-scales.ensures.size, c.in_ok-items.ensures.size);
}
