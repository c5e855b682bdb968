use Rattle.std.proofs.Common.{◌≡◌, take}
use Rattle.std.specs.List.{filter_map}
use Rattle.edif_design.specs.Parts.{instance_in}
use Rattle.edif_rules.specs.Lists.{seen}
use Rattle.edif_rules.proofs.parts.instances_in.Given as goal

abbrev pub invariant-loop-item : goal.invariant-loop-item
invariant-loop-item l = seen l.made.items ≡ filter_map instance_in (seen (take l.item-index l.items))
