use Rattle.std.proofs.Common.{◌≡◌, true, List, Err, refl, subst}
use Rattle.std.proofs.lemmas.Result.{err_from_is_err_and}
use Rattle.edif_library.proofs.Sizes.{less_room}
use Rattle.edif_values.specs.Sizes.{view_item_size}
use Rattle.edif_values.specs.Values.{is_contents}
use Rattle.edif_values.specs.declared.keyword.Keyword.{Keyword}
use Rattle.edif_values.specs.Keywords.{has}
use Rattle.edif_library.proofs.Once.{only_first, no_more_contents}
use Rattle.readers.specs.Readers.{same}
use Rattle.readers.proofs.Chain.{reads_then, reads_failed, maybe_reads}
use Rattle.edif_keywords.specs.Language.{edif}
use Rattle.edif_library.proofs.view.view_item.Goals as goal

pub returns-in_err-keyword : goal.returns-in_err-keyword
returns-in_err-keyword g c =
    let p = err_from_is_err_and c.from_residual.result c.from_residual.ensures.1 in
    rw (p.1, p.2) (record { reads = reads_failed edif same same _ _ (Err _) (rw c.view_keywords.ensures at c.in_err-keyword.ensures.reads) refl; value = tt; once = tt; size = tt })

pub returns : goal.returns
returns g c = record {
  reads = reads_then edif same same _ _ c.view_form.result (rw c.view_keywords.ensures at c.in_ok-keyword.ensures.reads) (maybe_reads edif same _ _ _ _ _ _ c.view_form.ensures.reads);
  value = c.view_form.ensures.value;
  once = only_first is_contents _ _ _ (no_more_contents _ _ (subst (λ (ks : List Keyword). has ks c.in_ok-keyword.keyword ≡ true) c.view_keywords.ensures c.in_ok-keyword.ensures.allowed)) c.view_form.ensures.kind;
  size = less_room view_item_size _ _ _ _ c.in_ok-keyword.ensures.reads.value.2 c.view_form.ensures.size;
}
