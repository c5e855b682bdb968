use Rattle.std.proofs.Common.{◌≡◌, take}
use Rattle.std.specs.List.{filter_map}
use Rattle.edif_design.specs.Parts.{design_in}
use Rattle.edif_design.specs.Tables.{seen}
use Rattle.edif_resolve.proofs.top.designs_of.Given as goal

abbrev pub invariant-loop-item : goal.invariant-loop-item
invariant-loop-item l = seen l.found.items ≡ filter_map design_in (take l.item-index l.file.items)
