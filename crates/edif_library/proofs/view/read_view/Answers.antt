use Rattle.std.proofs.Common.{Err, refl, arith}
use Rattle.std.proofs.lemmas.Result.{err_from_is_err_and}
use Rattle.readers.specs.Readers.{same}
use Rattle.readers.proofs.Chain.{reads_then, reads_failed, reads_last, maybe_reads}
use Rattle.edif_keywords.specs.Language.{edif}
use Rattle.edif_library.specs.Grammar.{view}
use Rattle.edif_library.proofs.view.read_view.Goals as goal

pub returns-in_err-name : goal.returns-in_err-name
unfolding view
returns-in_err-name g c =
    let p = err_from_is_err_and c.from_residual.result c.from_residual.ensures.1 in
    rw (p.1, p.2) (record { reads = reads_failed edif same same _ _ (Err _) c.in_err-name.ensures.reads refl; value = tt; size = tt })

pub returns-in_err-netlist : goal.returns-in_err-netlist
unfolding view
returns-in_err-netlist g c =
    let p = err_from_is_err_and c.from_residual-in_err-netlist.result c.from_residual-in_err-netlist.ensures.1 in
    rw (p.1, p.2) (record { reads = reads_then edif same same _ _ _ c.in_ok-name.ensures.reads (maybe_reads edif same _ _ _ _ _ _ (reads_failed edif same same _ _ (Err _) c.in_err-netlist.ensures refl)); value = tt; size = tt })

pub returns-in_err-interface : goal.returns-in_err-interface
unfolding view
returns-in_err-interface g c =
    let p = err_from_is_err_and c.from_residual-in_err-interface.result c.from_residual-in_err-interface.ensures.1 in
    rw (p.1, p.2) (record { reads = reads_then edif same same _ _ _ c.in_ok-name.ensures.reads (maybe_reads edif same _ _ _ _ _ _ (reads_then edif same same _ _ _ c.in_ok-netlist.ensures (maybe_reads edif same _ _ _ _ _ _ (reads_failed edif same same _ _ (Err _) c.in_err-interface.ensures.reads refl)))); value = tt; size = tt })

pub returns-in_err-items : goal.returns-in_err-items
unfolding view
returns-in_err-items g c =
    let p = err_from_is_err_and c.from_residual-in_err-items.result c.from_residual-in_err-items.ensures.1 in
    rw (p.1, p.2) (record { reads = reads_then edif same same _ _ _ c.in_ok-name.ensures.reads (maybe_reads edif same _ _ _ _ _ _ (reads_then edif same same _ _ _ c.in_ok-netlist.ensures (maybe_reads edif same _ _ _ _ _ _ (reads_then edif same same _ _ _ c.in_ok-interface.ensures.reads (maybe_reads edif same _ _ _ _ _ _ (reads_failed edif same same _ _ (Err _) c.in_err-items.ensures.reads refl)))))); value = tt; size = tt })

pub returns : goal.returns
unfolding view
returns g c = record {
  reads = reads_then edif same same _ _ _ c.in_ok-name.ensures.reads (maybe_reads edif same _ _ _ _ _ _ (reads_then edif same same _ _ _ c.in_ok-netlist.ensures (maybe_reads edif same _ _ _ _ _ _ (reads_then edif same same _ _ _ c.in_ok-interface.ensures.reads (maybe_reads edif same _ _ _ _ _ _ (reads_last edif same same _ _ _ _ _ _ _ _ _ refl refl c.in_ok-items.ensures.reads))))));
  value = record { name = c.in_ok-name.ensures.value; interface = c.in_ok-interface.ensures.value; items = c.in_ok-items.ensures.value; one_contents = c.in_ok-items.ensures.once };
  size = omega (arith, c.in_ok-name.ensures.reads.value.2, c.in_ok-netlist.ensures.value.2, c.in_ok-interface.ensures.size, c.in_ok-items.ensures.size);
}
