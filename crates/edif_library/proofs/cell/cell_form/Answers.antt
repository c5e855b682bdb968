use Rattle.std.proofs.Common.{◌∙◌, Err, refl, sym}
use Rattle.std.proofs.lemmas.Result.{err_from_is_err_and}
use Rattle.readers.specs.Readers.{same}
use Rattle.readers.proofs.Chain.{reads_failed, reads_last}
use Rattle.edif_keywords.specs.Language.{edif}
use Rattle.edif_library.proofs.cell.cell_form.Goals as goal

pub returns-in_err-view : goal.returns-in_err-view
returns-in_err-view g c =
    let p = err_from_is_err_and c.from_residual.result c.from_residual.ensures.1 in
    rw (p.1, p.2) (record { reads = rw (sym c.same_keyword.ensures ∙ c.if-same_keyword.true) (reads_failed edif same same _ _ (Err _) c.in_err-view.ensures.reads refl); value = tt; kind = tt; size = tt })

pub returns-then-same_keyword : goal.returns-then-same_keyword
returns-then-same_keyword g c = record {
  reads = rw (sym c.same_keyword.ensures ∙ c.if-same_keyword.true) (reads_last edif same same _ _ _ _ _ _ _ _ _ refl refl c.in_ok-view.ensures.reads);
  value = c.in_ok-view.ensures.value;
  kind = sym (sym c.same_keyword.ensures ∙ c.if-same_keyword.true);
  size = c.in_ok-view.ensures.size;
}

pub returns-in_err-property : goal.returns-in_err-property
returns-in_err-property g c =
    let p = err_from_is_err_and c.from_residual-in_err-property.result c.from_residual-in_err-property.ensures.1 in
    rw (p.1, p.2) (record { reads = rw (sym c.same_keyword.ensures ∙ c.if-same_keyword.false, sym c.same_keyword-2.ensures ∙ c.if-same_keyword-2.true) (reads_failed edif same same _ _ (Err _) c.in_err-property.ensures.reads refl); value = tt; kind = tt; size = tt })

pub returns-then-same_keyword-2 : goal.returns-then-same_keyword-2
returns-then-same_keyword-2 g c = record {
  reads = rw (sym c.same_keyword.ensures ∙ c.if-same_keyword.false, sym c.same_keyword-2.ensures ∙ c.if-same_keyword-2.true) (reads_last edif same same _ _ _ _ _ _ _ _ _ refl refl c.in_ok-property.ensures.reads);
  value = c.in_ok-property.ensures.value;
  kind = sym (sym c.same_keyword.ensures ∙ c.if-same_keyword.false);
  size = c.in_ok-property.ensures.size;
}

pub returns-in_err-status : goal.returns-in_err-status
returns-in_err-status g c =
    let p = err_from_is_err_and c.from_residual-in_err-status.result c.from_residual-in_err-status.ensures.1 in
    rw (p.1, p.2) (record { reads = rw (sym c.same_keyword.ensures ∙ c.if-same_keyword.false, sym c.same_keyword-2.ensures ∙ c.if-same_keyword-2.false, sym c.same_keyword-3.ensures ∙ c.if-same_keyword-3.true) (reads_failed edif same same _ _ (Err _) c.in_err-status.ensures.reads refl); value = tt; kind = tt; size = tt })

pub returns-then-same_keyword-3 : goal.returns-then-same_keyword-3
returns-then-same_keyword-3 g c = record {
  reads = rw (sym c.same_keyword.ensures ∙ c.if-same_keyword.false, sym c.same_keyword-2.ensures ∙ c.if-same_keyword-2.false, sym c.same_keyword-3.ensures ∙ c.if-same_keyword-3.true) (reads_last edif same same _ _ _ _ _ _ _ _ _ refl refl c.in_ok-status.ensures.reads);
  value = c.in_ok-status.ensures.value;
  kind = sym (sym c.same_keyword.ensures ∙ c.if-same_keyword.false);
  size = c.in_ok-status.ensures.size;
}

pub returns-in_err-note : goal.returns-in_err-note
returns-in_err-note g c =
    let p = err_from_is_err_and c.from_residual-in_err-note.result c.from_residual-in_err-note.ensures.1 in
    rw (p.1, p.2) (record { reads = rw (sym c.same_keyword.ensures ∙ c.if-same_keyword.false, sym c.same_keyword-2.ensures ∙ c.if-same_keyword-2.false, sym c.same_keyword-3.ensures ∙ c.if-same_keyword-3.false) (reads_failed edif same same _ _ (Err _) c.in_err-note.ensures.reads refl); value = tt; kind = tt; size = tt })

pub returns : goal.returns
returns g c = record {
  reads = rw (sym c.same_keyword.ensures ∙ c.if-same_keyword.false, sym c.same_keyword-2.ensures ∙ c.if-same_keyword-2.false, sym c.same_keyword-3.ensures ∙ c.if-same_keyword-3.false) (reads_last edif same same _ _ _ _ _ _ _ _ _ refl refl c.in_ok-note.ensures.reads);
  value = c.in_ok-note.ensures.value;
  kind = sym (sym c.same_keyword.ensures ∙ c.if-same_keyword.false);
  size = c.in_ok-note.ensures.size;
}
