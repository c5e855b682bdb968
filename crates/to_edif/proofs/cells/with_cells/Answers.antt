use Rattle.std.proofs.Common.{List, subst, sym, ◌∙◌}
use Rattle.net_hier.specs.declared.cells.HCell.{HCell}
use Rattle.to_edif.specs.Cells.{AreKept}
use Rattle.to_edif.proofs.cells.with_cells.Goals as goal

pub made_in_order-requires-clause-kept : goal.made_in_order-requires-clause-kept
made_in_order-requires-clause-kept c = subst (λ (l : List HCell). AreKept l c.args.kept.items) (sym (c.as_mut_slice.ensures.value ∙ (c.into_vec-left.ensures ∙ c.into_parts-cells.ensures.cells))) c.requires.kept
