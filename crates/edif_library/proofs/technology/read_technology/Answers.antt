use Rattle.std.proofs.Common.{Err, refl, arith}
use Rattle.std.proofs.lemmas.Result.{err_from_is_err_and}
use Rattle.readers.specs.Readers.{same}
use Rattle.readers.proofs.Chain.{reads_then, reads_failed, reads_last, maybe_reads}
use Rattle.edif_keywords.specs.Language.{edif}
use Rattle.edif_library.specs.Grammar.{technology}
use Rattle.edif_library.proofs.technology.read_technology.Goals as goal

pub returns-in_err-begin : goal.returns-in_err-begin
unfolding technology
returns-in_err-begin g c =
    let p = err_from_is_err_and c.from_residual.result c.from_residual.ensures.1 in
    rw (p.1, p.2) (record { reads = reads_failed edif same same _ _ (Err _) c.in_err-begin.ensures.reads refl; value = tt; size = tt })

pub returns-in_err-scales : goal.returns-in_err-scales
unfolding technology
returns-in_err-scales g c =
    let p = err_from_is_err_and c.from_residual-in_err-scales.result c.from_residual-in_err-scales.ensures.1 in
    rw (p.1, p.2) (record { reads = reads_then edif same same _ _ _ c.in_ok-begin.ensures.reads (maybe_reads edif same _ _ _ _ _ _ (reads_failed edif same same _ _ (Err _) c.in_err-scales.ensures.reads refl)); value = tt; size = tt })

pub returns-in_err-notes : goal.returns-in_err-notes
unfolding technology
returns-in_err-notes g c =
    let p = err_from_is_err_and c.from_residual-in_err-notes.result c.from_residual-in_err-notes.ensures.1 in
    rw (p.1, p.2) (record { reads = reads_then edif same same _ _ _ c.in_ok-begin.ensures.reads (maybe_reads edif same _ _ _ _ _ _ (reads_then edif same same _ _ _ c.in_ok-scales.ensures.reads (maybe_reads edif same _ _ _ _ _ _ (reads_failed edif same same _ _ (Err _) c.in_err-notes.ensures.reads refl)))); value = tt; size = tt })

pub returns : goal.returns
unfolding technology
returns g c = record {
  reads = reads_then edif same same _ _ _ c.in_ok-begin.ensures.reads (maybe_reads edif same _ _ _ _ _ _ (reads_then edif same same _ _ _ c.in_ok-scales.ensures.reads (maybe_reads edif same _ _ _ _ _ _ (reads_last edif same same _ _ _ _ _ _ _ _ _ refl refl c.in_ok-notes.ensures.reads))));
  value = (c.in_ok-scales.ensures.value, c.in_ok-notes.ensures.value);
  size = omega (arith, c.in_ok-begin.ensures.reads.value.2, c.in_ok-scales.ensures.size, c.in_ok-notes.ensures.size);
}
