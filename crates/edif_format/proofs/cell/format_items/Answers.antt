use Rattle.std.proofs.Common.{◌≡◌, ◌∙◌, ◌||◌, ap, sym, [], ◌∷◌, ◌++◌}
use Rattle.std.proofs.lemmas.Result.{err_from_is_err_and}
use Rattle.edif_library.specs.Grammar.{cell_rest, has_view}
use Rattle.edif_writer.specs.Forms.{cell_item_block}
use Rattle.edif_format.proofs.Steps.{then_put}
use Rattle.edif_format.proofs.Rounds.{goes_first, look_failed, ended, keyword_unread, item_failed, turn, smaller}
use Rattle.edif_library.proofs.Once.{viewed_more, none_viewed}
use Rattle.edif_values.specs.Keywords.{same_keyword}
use Rattle.edif_values.specs.Values.{is_view}
use Rattle.edif_values.specs.declared.keyword.Keyword.TheVariants as k
use Rattle.edif_format.proofs.cell.format_items.Goals as goal

pub loop-cursor-init : goal.loop-cursor-init
unfolding cell_rest
loop-cursor-init g c = ([], sym none_viewed, (λ b rest s. s), goes_first _ _)

pub returns-in_err-at_form : goal.returns-in_err-at_form
unfolding cell_rest
returns-in_err-at_form g c =
    let p = err_from_is_err_and c.from_residual.result c.from_residual.ensures.1 in
    rw (p.1, p.2) (look_failed _ _ 6 cell_item_block c.loop-cursor.invariant.0 c.loop-cursor.invariant.3 c.in_err-at_form.ensures.looks)

pub returns-in_err-keyword : goal.returns-in_err-keyword
unfolding cell_rest
returns-in_err-keyword g c =
    let p = err_from_is_err_and c.from_residual-in_err-keyword.result c.from_residual-in_err-keyword.ensures.1 in
    rw (p.1, p.2) (keyword_unread _ _ 6 cell_item_block c.loop-cursor.invariant.0 c.loop-cursor.invariant.3 (rw c.if-branch.true at c.in_ok-at_form.ensures.looks) (rw (c.cell_keywords.ensures, c.loop-cursor.invariant.1) at c.in_err-keyword.ensures.reads))

pub returns-in_err-format_form : goal.returns-in_err-format_form
unfolding cell_rest
returns-in_err-format_form g c =
    let p = err_from_is_err_and c.from_residual-in_err-format_form.result c.from_residual-in_err-format_form.ensures.1 in
    rw (p.1, p.2) (item_failed _ _ 6 cell_item_block c.loop-cursor.invariant.0 c.loop-cursor.invariant.3 (λ i. is_view i ≡ same_keyword c.in_ok-keyword.keyword k.View) (rw c.if-branch.true at c.in_ok-at_form.ensures.looks) (then_put (λ i. is_view i ≡ same_keyword c.in_ok-keyword.keyword k.View) _ _ _ (rw (c.cell_keywords.ensures, c.loop-cursor.invariant.1) at c.in_ok-keyword.ensures.reads) c.in_err-format_form.ensures))

pub loop-cursor-smaller : goal.loop-cursor-smaller
unfolding cell_rest
loop-cursor-smaller g c = smaller _ _ 6 cell_item_block c.loop-cursor.invariant.0 c.loop-cursor.invariant.3 (λ i. is_view i ≡ same_keyword c.in_ok-keyword.keyword k.View) (rw c.if-branch.true at c.in_ok-at_form.ensures.looks) (then_put (λ i. is_view i ≡ same_keyword c.in_ok-keyword.keyword k.View) _ _ _ (rw (c.cell_keywords.ensures, c.loop-cursor.invariant.1) at c.in_ok-keyword.ensures.reads) c.in_ok-format_form.ensures)

pub loop-cursor-preserved : goal.loop-cursor-preserved
unfolding cell_rest
loop-cursor-preserved g c =
    let next = turn _ _ 6 cell_item_block c.loop-cursor.invariant.0 c.loop-cursor.invariant.3 (λ i. is_view i ≡ same_keyword c.in_ok-keyword.keyword k.View) (rw c.if-branch.true at c.in_ok-at_form.ensures.looks) _ _ _ c.loop-cursor.invariant.2 (then_put (λ i. is_view i ≡ same_keyword c.in_ok-keyword.keyword k.View) _ _ _ (rw (c.cell_keywords.ensures, c.loop-cursor.invariant.1) at c.in_ok-keyword.ensures.reads) c.in_ok-format_form.ensures) in
    (c.loop-cursor.invariant.0 ++ next.0 ∷ [], c.is_viewed-viewed.ensures ∙ (ap (λ b. b || same_keyword c.in_ok-keyword.keyword k.View) c.loop-cursor.invariant.1 ∙ (ap (λ b. has_view c.loop-cursor.invariant.0 || b) (sym next.1) ∙ sym (viewed_more c.loop-cursor.invariant.0 next.0))), next.2, next.3)

pub returns : goal.returns
unfolding cell_rest
returns g c = ended _ _ 6 cell_item_block c.loop-cursor.invariant.0 c.loop-cursor.invariant.3 (rw c.if-branch.false at c.in_ok-at_form.ensures.looks) c.loop-cursor.invariant.2 c.finish_form.ensures
