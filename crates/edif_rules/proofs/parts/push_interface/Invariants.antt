use Rattle.std.proofs.Common.{◌≡◌, ◌++◌, take}
use Rattle.std.specs.List.{filter_map}
use Rattle.edif_design.specs.Parts.{port_in}
use Rattle.edif_rules.specs.Lists.{seen}
use Rattle.edif_rules.proofs.parts.push_interface.Given as goal

abbrev pub invariant-loop-item : goal.invariant-loop-item
invariant-loop-item l = seen l.ports.items ≡ seen l.initial.ports.items ++ filter_map port_in (take l.item-index l.items)
