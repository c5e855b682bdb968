use Rattle.std.proofs.Common.{◌∙◌, Err, refl, sym}
use Rattle.std.proofs.lemmas.Result.{err_from_is_err_and}
use Rattle.readers.specs.Readers.{same}
use Rattle.readers.proofs.Chain.{reads_failed, reads_last}
use Rattle.edif_keywords.specs.Language.{edif}
use Rattle.edif_library.proofs.file.file_form.Goals as goal

pub returns-in_err-library : goal.returns-in_err-library
returns-in_err-library g c =
    let p = err_from_is_err_and c.from_residual.result c.from_residual.ensures.1 in
    rw (p.1, p.2) (record { reads = rw (sym c.same_keyword.ensures ∙ c.if-same_keyword.true) (reads_failed edif same same _ _ (Err _) c.in_err-library.ensures.reads refl); value = tt; size = tt })

pub returns-then-same_keyword : goal.returns-then-same_keyword
returns-then-same_keyword g c = record {
  reads = rw (sym c.same_keyword.ensures ∙ c.if-same_keyword.true) (reads_last edif same same _ _ _ _ _ _ _ _ _ refl refl c.in_ok-library.ensures.reads);
  value = c.in_ok-library.ensures.value;
  size = c.in_ok-library.ensures.size;
}

pub returns-in_err-external : goal.returns-in_err-external
returns-in_err-external g c =
    let p = err_from_is_err_and c.from_residual-in_err-external.result c.from_residual-in_err-external.ensures.1 in
    rw (p.1, p.2) (record { reads = rw (sym c.same_keyword.ensures ∙ c.if-same_keyword.false, sym c.same_keyword-2.ensures ∙ c.if-same_keyword-2.true) (reads_failed edif same same _ _ (Err _) c.in_err-external.ensures.reads refl); value = tt; size = tt })

pub returns-then-same_keyword-2 : goal.returns-then-same_keyword-2
returns-then-same_keyword-2 g c = record {
  reads = rw (sym c.same_keyword.ensures ∙ c.if-same_keyword.false, sym c.same_keyword-2.ensures ∙ c.if-same_keyword-2.true) (reads_last edif same same _ _ _ _ _ _ _ _ _ refl refl c.in_ok-external.ensures.reads);
  value = c.in_ok-external.ensures.value;
  size = c.in_ok-external.ensures.size;
}

pub returns-in_err-design : goal.returns-in_err-design
returns-in_err-design g c =
    let p = err_from_is_err_and c.from_residual-in_err-design.result c.from_residual-in_err-design.ensures.1 in
    rw (p.1, p.2) (record { reads = rw (sym c.same_keyword.ensures ∙ c.if-same_keyword.false, sym c.same_keyword-2.ensures ∙ c.if-same_keyword-2.false, sym c.same_keyword-3.ensures ∙ c.if-same_keyword-3.true) (reads_failed edif same same _ _ (Err _) c.in_err-design.ensures.reads refl); value = tt; size = tt })

pub returns-then-same_keyword-3 : goal.returns-then-same_keyword-3
returns-then-same_keyword-3 g c = record {
  reads = rw (sym c.same_keyword.ensures ∙ c.if-same_keyword.false, sym c.same_keyword-2.ensures ∙ c.if-same_keyword-2.false, sym c.same_keyword-3.ensures ∙ c.if-same_keyword-3.true) (reads_last edif same same _ _ _ _ _ _ _ _ _ refl refl c.in_ok-design.ensures.reads);
  value = c.in_ok-design.ensures.value;
  size = c.in_ok-design.ensures.size;
}

pub returns-in_err-status : goal.returns-in_err-status
returns-in_err-status g c =
    let p = err_from_is_err_and c.from_residual-in_err-status.result c.from_residual-in_err-status.ensures.1 in
    rw (p.1, p.2) (record { reads = rw (sym c.same_keyword.ensures ∙ c.if-same_keyword.false, sym c.same_keyword-2.ensures ∙ c.if-same_keyword-2.false, sym c.same_keyword-3.ensures ∙ c.if-same_keyword-3.false, sym c.same_keyword-4.ensures ∙ c.if-same_keyword-4.true) (reads_failed edif same same _ _ (Err _) c.in_err-status.ensures.reads refl); value = tt; size = tt })

pub returns-then-same_keyword-4 : goal.returns-then-same_keyword-4
returns-then-same_keyword-4 g c = record {
  reads = rw (sym c.same_keyword.ensures ∙ c.if-same_keyword.false, sym c.same_keyword-2.ensures ∙ c.if-same_keyword-2.false, sym c.same_keyword-3.ensures ∙ c.if-same_keyword-3.false, sym c.same_keyword-4.ensures ∙ c.if-same_keyword-4.true) (reads_last edif same same _ _ _ _ _ _ _ _ _ refl refl c.in_ok-status.ensures.reads);
  value = c.in_ok-status.ensures.value;
  size = c.in_ok-status.ensures.size;
}

pub returns-in_err-note : goal.returns-in_err-note
returns-in_err-note g c =
    let p = err_from_is_err_and c.from_residual-in_err-note.result c.from_residual-in_err-note.ensures.1 in
    rw (p.1, p.2) (record { reads = rw (sym c.same_keyword.ensures ∙ c.if-same_keyword.false, sym c.same_keyword-2.ensures ∙ c.if-same_keyword-2.false, sym c.same_keyword-3.ensures ∙ c.if-same_keyword-3.false, sym c.same_keyword-4.ensures ∙ c.if-same_keyword-4.false) (reads_failed edif same same _ _ (Err _) c.in_err-note.ensures.reads refl); value = tt; size = tt })

pub returns : goal.returns
returns g c = record {
  reads = rw (sym c.same_keyword.ensures ∙ c.if-same_keyword.false, sym c.same_keyword-2.ensures ∙ c.if-same_keyword-2.false, sym c.same_keyword-3.ensures ∙ c.if-same_keyword-3.false, sym c.same_keyword-4.ensures ∙ c.if-same_keyword-4.false) (reads_last edif same same _ _ _ _ _ _ _ _ _ refl refl c.in_ok-note.ensures.reads);
  value = c.in_ok-note.ensures.value;
  size = c.in_ok-note.ensures.size;
}
