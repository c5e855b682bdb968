use Rattle.std.proofs.Common.{Err, refl, arith}
use Rattle.std.proofs.lemmas.Result.{err_from_is_err_and}
use Rattle.readers.specs.Readers.{same}
use Rattle.readers.proofs.Chain.{reads_then, reads_failed, reads_last, maybe_reads}
use Rattle.edif_keywords.specs.Language.{edif}
use Rattle.edif_library.specs.Grammar.{design}
use Rattle.edif_library.proofs.design.read_design.Goals as goal

pub returns-in_err-name : goal.returns-in_err-name
unfolding design
returns-in_err-name g c =
    let p = err_from_is_err_and c.from_residual.result c.from_residual.ensures.1 in
    rw (p.1, p.2) (record { reads = reads_failed edif same same _ _ (Err _) c.in_err-name.ensures.reads refl; value = tt; size = tt })

pub returns-in_err-cell : goal.returns-in_err-cell
unfolding design
returns-in_err-cell g c =
    let p = err_from_is_err_and c.from_residual-in_err-cell.result c.from_residual-in_err-cell.ensures.1 in
    rw (p.1, p.2) (record { reads = reads_then edif same same _ _ _ c.in_ok-name.ensures.reads (maybe_reads edif same _ _ _ _ _ _ (reads_failed edif same same _ _ (Err _) c.in_err-cell.ensures.reads refl)); value = tt; size = tt })

pub returns-in_err-items : goal.returns-in_err-items
unfolding design
returns-in_err-items g c =
    let p = err_from_is_err_and c.from_residual-in_err-items.result c.from_residual-in_err-items.ensures.1 in
    rw (p.1, p.2) (record { reads = reads_then edif same same _ _ _ c.in_ok-name.ensures.reads (maybe_reads edif same _ _ _ _ _ _ (reads_then edif same same _ _ _ c.in_ok-cell.ensures.reads (maybe_reads edif same _ _ _ _ _ _ (reads_failed edif same same _ _ (Err _) c.in_err-items.ensures.reads refl)))); value = tt; size = tt })

pub returns : goal.returns
unfolding design
returns g c = record {
  reads = reads_then edif same same _ _ _ c.in_ok-name.ensures.reads (maybe_reads edif same _ _ _ _ _ _ (reads_then edif same same _ _ _ c.in_ok-cell.ensures.reads (maybe_reads edif same _ _ _ _ _ _ (reads_last edif same same _ _ _ _ _ _ _ _ _ refl refl c.in_ok-items.ensures.reads))));
  value = record { name = c.in_ok-name.ensures.value; cell = c.in_ok-cell.ensures.value.0; library = c.in_ok-cell.ensures.value.1; items = c.in_ok-items.ensures.value };
  size = omega (arith, c.in_ok-name.ensures.reads.value.2, c.in_ok-cell.ensures.reads.value.2, c.in_ok-items.ensures.size);
}
