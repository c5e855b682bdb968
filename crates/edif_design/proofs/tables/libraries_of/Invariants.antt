use Rattle.std.proofs.Common.{◌≡◌, take}
use Rattle.edif_design.specs.Parts.{libraries_in}
use Rattle.edif_design.specs.Tables.{seen}
use Rattle.edif_design.proofs.tables.libraries_of.Given as goal

abbrev pub invariant-loop-item : goal.invariant-loop-item
invariant-loop-item l = seen l.found.items ≡ libraries_in (take l.item-index l.file.items)
