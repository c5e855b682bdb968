use Rattle.edif_keywords.proofs.Maps.{refused_exit}
use Rattle.edif_keywords.proofs.cursor.Cursor.map_items.Goals as goal

pub returns-in_err-map_item : goal.returns-in_err-map_item
returns-in_err-map_item g c =
    refused_exit c.args.with_aliases _ _ _ _ _ _ _ _ c.loop-self.invariant _ c.in_ok-at_form.ensures.looks c.if-branch.true _ c.in_err-map_item.ensures _ c.from_residual-in_err-map_item.ensures.1
