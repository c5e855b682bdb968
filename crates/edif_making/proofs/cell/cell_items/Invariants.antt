use Rattle.std.proofs.Common.{◌≡◌, ◌∷◌, map}
use Rattle.edif_values.specs.declared.cell.CellItem.TheVariants as cell_items
use Rattle.edif_making.proofs.cell.cell_items.Given as goal

abbrev pub invariant-loop-property : goal.invariant-loop-property
invariant-loop-property l = l.items.items ≡ cell_items.View l.fn.view ∷ map cell_items.Property l.yielded
