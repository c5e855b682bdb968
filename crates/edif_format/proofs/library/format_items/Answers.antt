use Rattle.std.proofs.Common.{[], ◌∷◌, ◌++◌}
use Rattle.std.proofs.lemmas.Result.{err_from_is_err_and}
use Rattle.edif_library.specs.Grammar.{library_rest}
use Rattle.edif_writer.specs.Forms.{library_item_block}
use Rattle.edif_format.specs.Parts.{Any}
use Rattle.edif_format.proofs.Steps.{then_put}
use Rattle.edif_format.proofs.Rounds.{goes_first, look_failed, ended, keyword_unread, item_failed, turn, smaller}
use Rattle.edif_format.proofs.library.format_items.Goals as goal

pub loop-cursor-init : goal.loop-cursor-init
unfolding library_rest
loop-cursor-init g c = ([], (λ b rest s. s), goes_first _ _)

pub returns-in_err-at_form : goal.returns-in_err-at_form
unfolding library_rest
returns-in_err-at_form g c =
    let p = err_from_is_err_and c.from_residual.result c.from_residual.ensures.1 in
    rw (p.1, p.2) (look_failed _ _ 4 library_item_block c.loop-cursor.invariant.0 c.loop-cursor.invariant.2 c.in_err-at_form.ensures.looks)

pub returns-in_err-keyword : goal.returns-in_err-keyword
unfolding library_rest
returns-in_err-keyword g c =
    let p = err_from_is_err_and c.from_residual-in_err-keyword.result c.from_residual-in_err-keyword.ensures.1 in
    rw (p.1, p.2) (keyword_unread _ _ 4 library_item_block c.loop-cursor.invariant.0 c.loop-cursor.invariant.2 (rw c.if-branch.true at c.in_ok-at_form.ensures.looks) c.in_err-keyword.ensures.reads)

pub returns-in_err-format_form : goal.returns-in_err-format_form
unfolding library_rest
returns-in_err-format_form g c =
    let p = err_from_is_err_and c.from_residual-in_err-format_form.result c.from_residual-in_err-format_form.ensures.1 in
    rw (p.1, p.2) (item_failed _ _ 4 library_item_block c.loop-cursor.invariant.0 c.loop-cursor.invariant.2 Any (rw c.if-branch.true at c.in_ok-at_form.ensures.looks) (then_put Any _ _ _ c.in_ok-keyword.ensures.reads c.in_err-format_form.ensures))

pub loop-cursor-smaller : goal.loop-cursor-smaller
unfolding library_rest
loop-cursor-smaller g c = smaller _ _ 4 library_item_block c.loop-cursor.invariant.0 c.loop-cursor.invariant.2 Any (rw c.if-branch.true at c.in_ok-at_form.ensures.looks) (then_put Any _ _ _ c.in_ok-keyword.ensures.reads c.in_ok-format_form.ensures)

pub loop-cursor-preserved : goal.loop-cursor-preserved
unfolding library_rest
loop-cursor-preserved g c =
    let next = turn _ _ 4 library_item_block c.loop-cursor.invariant.0 c.loop-cursor.invariant.2 Any (rw c.if-branch.true at c.in_ok-at_form.ensures.looks) _ _ _ c.loop-cursor.invariant.1 (then_put Any _ _ _ c.in_ok-keyword.ensures.reads c.in_ok-format_form.ensures) in
    (c.loop-cursor.invariant.0 ++ next.0 ∷ [], next.2, next.3)

pub returns : goal.returns
unfolding library_rest
returns g c = ended _ _ 4 library_item_block c.loop-cursor.invariant.0 c.loop-cursor.invariant.2 (rw c.if-branch.false at c.in_ok-at_form.ensures.looks) c.loop-cursor.invariant.1 c.finish_form.ensures
