use Rattle.std.proofs.Common.{◌≡◌, ◌++◌, take}
use Rattle.std.specs.List.{filter_map}
use Rattle.edif_design.specs.Design.{interface_property}
use Rattle.edif_cells.proofs.properties.push_interface.Given as goal

abbrev pub invariant-loop-item : goal.invariant-loop-item
invariant-loop-item l = l.props ≡ l.initial.props ++ filter_map interface_property (take l.item-index l.items)
