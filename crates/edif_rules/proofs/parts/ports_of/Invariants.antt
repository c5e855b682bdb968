use Rattle.std.proofs.Common.{◌≡◌, take}
use Rattle.std.specs.List.{filter_map, flat_map}
use Rattle.edif_design.specs.Parts.{view_in}
use Rattle.edif_rules.specs.Lists.{seen}
use Rattle.edif_rules.specs.Lists.{interface_ports}
use Rattle.edif_rules.proofs.parts.ports_of.Given as goal

abbrev pub invariant-loop-item : goal.invariant-loop-item
invariant-loop-item l = seen l.made.items ≡ flat_map interface_ports (filter_map view_in (take l.item-index l.cell.items))
