use Rattle.std.proofs.Common.{◌≡◌, ◌++◌, take}
use Rattle.std.specs.List.{filter_map}
use Rattle.edif_design.specs.Design.{instance_property}
use Rattle.edif_cells.proofs.properties.instance_properties.Given as goal

abbrev pub invariant-loop-item : goal.invariant-loop-item
invariant-loop-item l = l.made ≡ filter_map instance_property (take l.item-index l.items)
