use Rattle.std.proofs.Common.{◌∙◌, Err, Ok, refl, sym, []}
use Rattle.std.proofs.lemmas.Result.{err_from_is_err_and}
use Rattle.edif_values.specs.declared.view.ViewItem.TheVariants as items
use Rattle.edif_library.specs.Grammar.{contents_rest}
use Rattle.edif_format.specs.Parts.{Any}
use Rattle.edif_format.proofs.Steps.{last_put, last_failed}
use Rattle.edif_format.proofs.view.format_form.Goals as goal

pub returns-in_err-format_contents : goal.returns-in_err-format_contents
returns-in_err-format_contents g c =
    let p = err_from_is_err_and c.from_residual.result c.from_residual.ensures.1 in
    rw (p.1, p.2) (rw (sym c.same_keyword.ensures ∙ c.if-same_keyword.true) (last_failed Any _ (contents_rest []) items.Contents _ _ c.in_err-format_contents.ensures))

pub returns-then-same_keyword : goal.returns-then-same_keyword
returns-then-same_keyword g c =
    rw (sym c.same_keyword.ensures ∙ c.if-same_keyword.true) (last_put Any _ (contents_rest []) items.Contents _ _ c.in_ok-format_contents.ensures (λ _ _. refl)
    (λ _ lines b rest s. c.put_close.ensures b rest (lines b _ (c.lay_contents_start.ensures b _ s))))

pub returns-in_err-item : goal.returns-in_err-item
returns-in_err-item g c =
    let p = err_from_is_err_and c.from_residual-in_err-item.result c.from_residual-in_err-item.ensures.1 in
    rw (p.1, p.2) (Err c.in_err-item.field-0.0, c.in_err-item.ensures.reads, refl)

pub returns : goal.returns
returns g c = (Ok c.in_ok-item.item, c.in_ok-item.ensures.reads, (c.in_ok-item.ensures.kind, c.put_part.ensures))
