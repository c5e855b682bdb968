use Rattle.std.proofs.Common.{◌≡◌, ◌++◌, take}
use Rattle.std.specs.List.{filter_map, flat_map}
use Rattle.edif_design.specs.Parts.{contents_in, instance_in}
use Rattle.edif_rules.specs.Lists.{seen}
use Rattle.edif_rules.proofs.parts.push_view_instances.Given as goal

abbrev pub invariant-loop-item : goal.invariant-loop-item
invariant-loop-item l = seen l.list.items ≡ seen l.initial.list.items ++ filter_map instance_in (flat_map contents_in (take l.item-index l.view.items))
