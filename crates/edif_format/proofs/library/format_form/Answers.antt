use Rattle.std.proofs.Common.{◌∙◌, Err, Ok, refl, sym}
use Rattle.std.proofs.lemmas.Result.{err_from_is_err_and}
use Rattle.edif_values.specs.declared.library.LibraryItem.TheVariants as items
use Rattle.edif_library.specs.Grammar.{cell}
use Rattle.edif_format.specs.Parts.{Any}
use Rattle.edif_format.proofs.Steps.{last_put}
use Rattle.edif_format.proofs.library.format_form.Goals as goal

pub returns-then-same_keyword : goal.returns-then-same_keyword
returns-then-same_keyword g c = rw (sym c.same_keyword.ensures ∙ c.if-same_keyword.true) (last_put Any _ cell items.Cell _ _ c.format_cell.ensures (λ _ _. tt) (λ _ put. put))

pub returns-in_err-item : goal.returns-in_err-item
returns-in_err-item g c =
    let p = err_from_is_err_and c.from_residual.result c.from_residual.ensures.1 in
    rw (p.1, p.2) (Err c.in_err-item.field-0.0, c.in_err-item.ensures.reads, refl)

pub returns : goal.returns
returns g c = (Ok c.in_ok-item.item, c.in_ok-item.ensures.reads, (tt, c.put_part.ensures))
