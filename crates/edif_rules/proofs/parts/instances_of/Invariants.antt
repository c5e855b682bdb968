use Rattle.std.proofs.Common.{◌≡◌, take}
use Rattle.std.specs.List.{filter_map, flat_map}
use Rattle.edif_design.specs.Parts.{contents, instance_in, view_in}
use Rattle.edif_rules.specs.Lists.{seen}
use Rattle.edif_rules.proofs.parts.instances_of.Given as goal

abbrev pub invariant-loop-item : goal.invariant-loop-item
invariant-loop-item l = seen l.made.items ≡ filter_map instance_in (flat_map contents (filter_map view_in (take l.item-index l.cell.items)))
