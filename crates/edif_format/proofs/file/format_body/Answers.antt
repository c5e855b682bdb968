use Rattle.std.proofs.lemmas.Result.{err_from_is_err_and}
use Rattle.edif_library.specs.Grammar.{file_body}
use Rattle.edif_format.specs.Parts.{Any}
use Rattle.edif_format.proofs.Steps.{last_put, last_failed}
use Rattle.edif_format.proofs.file.format_body.Goals as goal

pub returns-in_err-format_items : goal.returns-in_err-format_items
unfolding file_body
returns-in_err-format_items g c =
    let p = err_from_is_err_and c.from_residual.result c.from_residual.ensures.1 in
    rw (p.1, p.2) (last_failed Any Any _ _ _ _ c.in_err-format_items.ensures)

pub returns : goal.returns
unfolding file_body
returns g c =
    last_put Any Any _ _ _ _ c.in_ok-format_items.ensures (λ _ _. tt) (λ _ lines b rest s. c.put_close.ensures b rest (lines b _ (c.put_start.ensures b _ s)))
