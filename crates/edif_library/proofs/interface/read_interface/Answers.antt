use Rattle.std.proofs.Common.{Err, refl}
use Rattle.std.proofs.lemmas.Result.{err_from_is_err_and}
use Rattle.edif_library.proofs.Sizes.{less_room}
use Rattle.edif_values.specs.Sizes.{list_size, interface_item_size}
use Rattle.readers.specs.Readers.{same}
use Rattle.readers.proofs.Chain.{reads_then, reads_failed, maybe_reads}
use Rattle.edif_keywords.specs.Language.{edif}
use Rattle.edif_library.specs.Grammar.{interface}
use Rattle.edif_library.proofs.interface.read_interface.Goals as goal

pub returns-in_err-begin : goal.returns-in_err-begin
unfolding interface
returns-in_err-begin g c =
    let p = err_from_is_err_and c.from_residual.result c.from_residual.ensures.1 in
    rw (p.1, p.2) (record { reads = reads_failed edif same same _ _ (Err _) c.in_err-begin.ensures.reads refl; value = tt; size = tt })

pub returns : goal.returns
unfolding interface
returns g c = record {
  reads = reads_then edif same same _ _ c.interface_rest.result c.in_ok-begin.ensures.reads (maybe_reads edif same _ _ _ _ _ _ c.interface_rest.ensures.reads);
  value = c.interface_rest.ensures.value;
  size = less_room (list_size interface_item_size) _ _ _ _ c.in_ok-begin.ensures.reads.value.2 c.interface_rest.ensures.size;
}
