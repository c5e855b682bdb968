use Rattle.std.proofs.lemmas.Result.{err_from_is_err_and}
use Rattle.edif_library.specs.Grammar.{library}
use Rattle.edif_format.specs.Parts.{Any}
use Rattle.edif_format.proofs.Steps.{then_put, not_read, last_put, last_failed}
use Rattle.edif_format.proofs.library.format_library.Goals as goal

pub returns-in_err-name : goal.returns-in_err-name
unfolding library
returns-in_err-name g c =
    let p = err_from_is_err_and c.from_residual.result c.from_residual.ensures.1 in
    rw (p.1, p.2) (not_read Any _ _ _ c.in_err-name.ensures.reads)

pub returns-in_err-level : goal.returns-in_err-level
unfolding library
returns-in_err-level g c =
    let p = err_from_is_err_and c.from_residual-in_err-level.result c.from_residual-in_err-level.ensures.1 in
    rw (p.1, p.2) (then_put Any _ _ _ c.in_ok-name.ensures.reads (not_read Any _ _ _ c.in_err-level.ensures))

pub returns-in_err-scales : goal.returns-in_err-scales
unfolding library
returns-in_err-scales g c =
    let p = err_from_is_err_and c.from_residual-in_err-scales.result c.from_residual-in_err-scales.ensures.1 in
    rw (p.1, p.2) (then_put Any _ _ _ c.in_ok-name.ensures.reads (then_put Any _ _ _ c.in_ok-level.ensures (not_read Any _ _ _ c.in_err-scales.ensures.reads)))

pub returns-in_err-format_items : goal.returns-in_err-format_items
unfolding library
returns-in_err-format_items g c =
    let p = err_from_is_err_and c.from_residual-in_err-format_items.result c.from_residual-in_err-format_items.ensures.1 in
    rw (p.1, p.2) (then_put Any _ _ _ c.in_ok-name.ensures.reads (then_put Any _ _ _ c.in_ok-level.ensures (then_put Any _ _ _ c.in_ok-scales.ensures.reads (last_failed Any Any _ _ _ _ c.in_err-format_items.ensures))))

pub returns : goal.returns
unfolding library
returns g c =
    then_put Any _ _ _ c.in_ok-name.ensures.reads (then_put Any _ _ _ c.in_ok-level.ensures (then_put Any _ _ _ c.in_ok-scales.ensures.reads (last_put Any Any _ _ _ _ c.in_ok-format_items.ensures (λ _ _. tt) (λ _ lines b rest s. c.put_close.ensures b rest (lines b _ (c.put_start.ensures b _ s))))))
