use Rattle.std.proofs.Common.{Ok, [], ◌∷◌, ◌++◌}
use Rattle.std.proofs.lemmas.Result.{err_from_is_err_and}
use Rattle.edif_library.specs.Grammar.{contents_rest}
use Rattle.edif_writer.specs.Forms.{contents_item_block}
use Rattle.edif_format.specs.Parts.{Any}
use Rattle.edif_format.proofs.Rounds.{goes_first, look_failed, ended, item_unread, turn, smaller}
use Rattle.edif_format.proofs.view.format_contents.Goals as goal

pub loop-cursor-init : goal.loop-cursor-init
unfolding contents_rest
loop-cursor-init g c = ([], (λ b rest s. s), goes_first _ _)

pub returns-in_err-at_form : goal.returns-in_err-at_form
unfolding contents_rest
returns-in_err-at_form g c =
    let p = err_from_is_err_and c.from_residual.result c.from_residual.ensures.1 in
    rw (p.1, p.2) (look_failed _ _ 10 contents_item_block c.loop-cursor.invariant.0 c.loop-cursor.invariant.2 c.in_err-at_form.ensures.looks)

pub returns-in_err-item : goal.returns-in_err-item
unfolding contents_rest
returns-in_err-item g c =
    let p = err_from_is_err_and c.from_residual-in_err-item.result c.from_residual-in_err-item.ensures.1 in
    rw (p.1, p.2) (item_unread _ _ 10 contents_item_block c.loop-cursor.invariant.0 c.loop-cursor.invariant.2 (rw c.if-branch.true at c.in_ok-at_form.ensures.looks) c.in_err-item.ensures.reads)

pub loop-cursor-smaller : goal.loop-cursor-smaller
unfolding contents_rest
loop-cursor-smaller g c = smaller _ _ 10 contents_item_block c.loop-cursor.invariant.0 c.loop-cursor.invariant.2 Any (rw c.if-branch.true at c.in_ok-at_form.ensures.looks) (Ok c.in_ok-item.item, c.in_ok-item.ensures.reads, (tt, c.put_part.ensures))

pub loop-cursor-preserved : goal.loop-cursor-preserved
unfolding contents_rest
loop-cursor-preserved g c =
    let next = turn _ _ 10 contents_item_block c.loop-cursor.invariant.0 c.loop-cursor.invariant.2 Any (rw c.if-branch.true at c.in_ok-at_form.ensures.looks) _ _ _ c.loop-cursor.invariant.1 (Ok c.in_ok-item.item, c.in_ok-item.ensures.reads, (tt, c.put_part.ensures)) in
    (c.loop-cursor.invariant.0 ++ next.0 ∷ [], next.2, next.3)

pub returns : goal.returns
unfolding contents_rest
returns g c = ended _ _ 10 contents_item_block c.loop-cursor.invariant.0 c.loop-cursor.invariant.2 (rw c.if-branch.false at c.in_ok-at_form.ensures.looks) c.loop-cursor.invariant.1 c.finish_form.ensures
