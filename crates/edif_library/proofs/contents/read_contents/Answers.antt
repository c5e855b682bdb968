use Rattle.std.proofs.Common.{refl}
use Rattle.std.specs.List.{AllByRecursion}
use Rattle.std.proofs.lemmas.Result.{err_from_is_err_and}
use Rattle.nl_bytes.proofs.Uses.{AllByRecursion-push}
use Rattle.edif_values.specs.Values.{IsContentsItem}
use Rattle.edif_values.specs.Sizes.{list_size, contents_item_size}
use Rattle.edif_library.proofs.Items.{begun, look_failed, end_failed, ended, fewer, item_failed, add_failed, smaller, turn, one_more}
use Rattle.edif_library.specs.Grammar.{contents_rest}
use Rattle.edif_library.proofs.contents.read_contents.Goals as goal

pub loop-items-init : goal.loop-items-init
unfolding contents_rest
loop-items-init g c = rw c.empty-items.ensures (begun _ tt refl)

pub returns-in_err-at_form : goal.returns-in_err-at_form
unfolding contents_rest
returns-in_err-at_form g c =
    let p = err_from_is_err_and c.from_residual.result c.from_residual.ensures.1 in
    rw (p.1, p.2) (record { reads = look_failed _ _ (AllByRecursion IsContentsItem) (list_size contents_item_size) _ c.loop-items.invariant c.in_err-at_form.ensures.looks; value = tt; size = tt })

pub returns-in_err-item : goal.returns-in_err-item
unfolding contents_rest
returns-in_err-item g c =
    let p = err_from_is_err_and c.from_residual-in_err-item.result c.from_residual-in_err-item.ensures.1 in
    rw (p.1, p.2) (record { reads = item_failed _ _ (AllByRecursion IsContentsItem) (list_size contents_item_size) _ c.loop-items.invariant (rw c.if-branch.true at c.in_ok-at_form.ensures.looks) c.in_err-item.ensures.reads; value = tt; size = tt })

pub loop-items-smaller : goal.loop-items-smaller
unfolding contents_rest
loop-items-smaller g c = smaller _ _ (AllByRecursion IsContentsItem) (list_size contents_item_size) _ c.loop-items.invariant (rw c.if-branch.true at c.in_ok-at_form.ensures.looks) c.in_ok-item.ensures.reads c.in_ok-add.ensures

pub loop-items-preserved : goal.loop-items-preserved
unfolding contents_rest
loop-items-preserved g c =
    turn _ _ (AllByRecursion IsContentsItem) (list_size contents_item_size) _ c.loop-items.invariant (rw c.if-branch.true at c.in_ok-at_form.ensures.looks) c.in_ok-item.ensures.reads c.in_ok-add.ensures
    (AllByRecursion-push _ _ _ c.loop-items.invariant.good c.in_ok-item.ensures.value)
    (one_more contents_item_size c.loop-items.items c.in_ok-item.item _ _ c.in_ok-item.ensures.size)

pub returns-in_err-add : goal.returns-in_err-add
unfolding contents_rest
returns-in_err-add g c =
    let p = err_from_is_err_and c.from_residual-in_err-add.result c.from_residual-in_err-add.ensures.1 in
    rw (p.1, p.2) (record { reads = add_failed _ _ (AllByRecursion IsContentsItem) (list_size contents_item_size) _ c.loop-items.invariant (rw c.if-branch.true at c.in_ok-at_form.ensures.looks) c.in_ok-item.ensures.reads c.in_err-add.ensures; value = tt; size = tt })

pub returns-in_err-finish_form : goal.returns-in_err-finish_form
unfolding contents_rest
returns-in_err-finish_form g c =
    let p = err_from_is_err_and c.from_residual-in_err-finish_form.result c.from_residual-in_err-finish_form.ensures.1 in
    rw (p.1, p.2) (record { reads = end_failed _ _ (AllByRecursion IsContentsItem) (list_size contents_item_size) _ c.loop-items.invariant (rw c.if-branch.false at c.in_ok-at_form.ensures.looks) c.in_err-finish_form.ensures; value = tt; size = tt })

pub returns : goal.returns
unfolding contents_rest
returns g c = rw c.without_spare_room.ensures (record {
  reads = ended _ _ (AllByRecursion IsContentsItem) (list_size contents_item_size) _ c.loop-items.invariant (rw c.if-branch.false at c.in_ok-at_form.ensures.looks) c.in_ok-finish_form.ensures;
  value = c.loop-items.invariant.good;
  size = fewer _ _ (AllByRecursion IsContentsItem) (list_size contents_item_size) _ c.loop-items.invariant (rw c.if-branch.false at c.in_ok-at_form.ensures.looks) c.in_ok-finish_form.ensures;
})
