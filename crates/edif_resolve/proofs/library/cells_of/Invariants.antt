use Rattle.std.proofs.Common.{◌≡◌, take}
use Rattle.std.specs.List.{filter_map}
use Rattle.edif_design.specs.Parts.{cell_in}
use Rattle.edif_design.specs.Tables.{seen}
use Rattle.edif_resolve.proofs.library.cells_of.Given as goal

abbrev pub invariant-loop-item : goal.invariant-loop-item
invariant-loop-item l = seen l.cells.items ≡ filter_map cell_in (take l.item-index l.library.items)
