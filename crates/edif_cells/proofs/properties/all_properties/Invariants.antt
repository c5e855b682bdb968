use Rattle.std.proofs.Common.{◌≡◌, take}
use Rattle.std.specs.List.{flat_map}
use Rattle.edif_design.specs.Design.{cell_properties}
use Rattle.edif_cells.proofs.properties.all_properties.Given as goal

abbrev pub invariant-loop-item : goal.invariant-loop-item
invariant-loop-item l = l.made ≡ flat_map cell_properties (take l.item-index l.cell.items)
