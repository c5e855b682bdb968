use Rattle.std.proofs.Common.{◌≡◌, ◌++◌, take}
use Rattle.std.specs.List.{filter_map}
use Rattle.edif_design.specs.Design.{design_property}
use Rattle.edif_cells.proofs.properties.push_properties.Given as goal

abbrev pub invariant-loop-item : goal.invariant-loop-item
invariant-loop-item l = l.props ≡ l.initial.props ++ filter_map design_property (take l.item-index l.design.items)
