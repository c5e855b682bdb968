use Rattle.std.proofs.Common.{◌≡◌, ◌++◌, take}
use Rattle.std.specs.List.{filter_map}
use Rattle.edif_design.specs.Parts.{instance_in}
use Rattle.edif_rules.specs.Lists.{seen}
use Rattle.edif_rules.proofs.parts.push_instances.Given as goal

abbrev pub invariant-loop-item : goal.invariant-loop-item
invariant-loop-item l = seen l.list.items ≡ seen l.initial.list.items ++ filter_map instance_in (take l.item-index l.items)
