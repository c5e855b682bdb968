use Rattle.std.proofs.Common.{refl, ◌||◌, ◌∙◌, ap, sym, arith}
use Rattle.std.proofs.lemmas.Result.{err_from_is_err_and}
use Rattle.nl_bytes.proofs.Uses.{AllByRecursion-push}
use Rattle.edif_values.specs.Values.{is_contents}
use Rattle.edif_values.specs.Sizes.{list_size, view_item_size}
use Rattle.edif_library.proofs.Items.{begun, look_failed, end_failed, ended, fewer, item_failed, add_failed, smaller, turn, one_more}
use Rattle.edif_library.proofs.Once.{AreViewItems, filled_more, none_filled, filled_once}
use Rattle.edif_library.specs.Grammar.{view_rest}
use Rattle.edif_library.proofs.view.view_rest.Goals as goal

pub loop-items-init : goal.loop-items-init
unfolding view_rest
loop-items-init g c = rw c.empty-items.ensures (sym none_filled, begun _ (tt, omega arith) refl)

pub returns-in_err-at_form : goal.returns-in_err-at_form
unfolding view_rest
returns-in_err-at_form g c =
    let p = err_from_is_err_and c.from_residual.result c.from_residual.ensures.1 in
    rw (p.1, p.2) (record { reads = look_failed _ _ AreViewItems (list_size view_item_size) _ c.loop-items.invariant.1 c.in_err-at_form.ensures.looks; value = tt; once = tt; size = tt })

pub returns-in_err-item : goal.returns-in_err-item
unfolding view_rest
returns-in_err-item g c =
    let p = err_from_is_err_and c.from_residual-in_err-item.result c.from_residual-in_err-item.ensures.1 in
    rw (p.1, p.2) (record { reads = item_failed _ _ AreViewItems (list_size view_item_size) _ c.loop-items.invariant.1 (rw c.if-branch.true at c.in_ok-at_form.ensures.looks) (rw c.loop-items.invariant.0 at c.in_err-item.ensures.reads); value = tt; once = tt; size = tt })

pub loop-items-smaller : goal.loop-items-smaller
unfolding view_rest
loop-items-smaller g c = smaller _ _ AreViewItems (list_size view_item_size) _ c.loop-items.invariant.1 (rw c.if-branch.true at c.in_ok-at_form.ensures.looks) (rw c.loop-items.invariant.0 at c.in_ok-item.ensures.reads) c.in_ok-add_inline.ensures

pub loop-items-preserved : goal.loop-items-preserved
unfolding view_rest
loop-items-preserved g c = (
  rw (c.in_ok-add_inline.ensures.added.0, filled_more) (c.is_filled-filled.ensures ∙ ap (λ b. b || is_contents c.in_ok-item.item) c.loop-items.invariant.0),
  turn _ _ AreViewItems (list_size view_item_size) _ c.loop-items.invariant.1 (rw c.if-branch.true at c.in_ok-at_form.ensures.looks) (rw c.loop-items.invariant.0 at c.in_ok-item.ensures.reads) c.in_ok-add_inline.ensures
      (AllByRecursion-push _ _ _ c.loop-items.invariant.1.good.0 c.in_ok-item.ensures.value, filled_once _ _ _ c.loop-items.invariant.0 c.in_ok-item.ensures.once c.loop-items.invariant.1.good.1)
      (one_more view_item_size c.loop-items.items c.in_ok-item.item _ _ c.in_ok-item.ensures.size),
)

pub returns-in_err-add_inline : goal.returns-in_err-add_inline
unfolding view_rest
returns-in_err-add_inline g c =
    let p = err_from_is_err_and c.from_residual-in_err-add_inline.result c.from_residual-in_err-add_inline.ensures.1 in
    rw (p.1, p.2) (record { reads = add_failed _ _ AreViewItems (list_size view_item_size) _ c.loop-items.invariant.1 (rw c.if-branch.true at c.in_ok-at_form.ensures.looks) (rw c.loop-items.invariant.0 at c.in_ok-item.ensures.reads) c.in_err-add_inline.ensures; value = tt; once = tt; size = tt })

pub returns-in_err-finish_form : goal.returns-in_err-finish_form
unfolding view_rest
returns-in_err-finish_form g c =
    let p = err_from_is_err_and c.from_residual-in_err-finish_form.result c.from_residual-in_err-finish_form.ensures.1 in
    rw (p.1, p.2) (record { reads = end_failed _ _ AreViewItems (list_size view_item_size) _ c.loop-items.invariant.1 (rw c.if-branch.false at c.in_ok-at_form.ensures.looks) c.in_err-finish_form.ensures; value = tt; once = tt; size = tt })

pub returns : goal.returns
unfolding view_rest
returns g c = record {
  reads = ended _ _ AreViewItems (list_size view_item_size) _ c.loop-items.invariant.1 (rw c.if-branch.false at c.in_ok-at_form.ensures.looks) c.in_ok-finish_form.ensures;
  value = c.loop-items.invariant.1.good.0;
  once = c.loop-items.invariant.1.good.1;
  size = fewer _ _ AreViewItems (list_size view_item_size) _ c.loop-items.invariant.1 (rw c.if-branch.false at c.in_ok-at_form.ensures.looks) c.in_ok-finish_form.ensures;
}
