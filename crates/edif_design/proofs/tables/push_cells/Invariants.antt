use Rattle.std.proofs.Common.{◌≡◌, ◌++◌, map, take}
use Rattle.std.specs.List.{filter_map}
use Rattle.edif_design.specs.Parts.{cell_in}
use Rattle.edif_design.specs.References.{place_in}
use Rattle.edif_design.specs.Tables.{place_of}
use Rattle.edif_design.proofs.tables.push_cells.Given as goal

abbrev pub invariant-loop-item : goal.invariant-loop-item
invariant-loop-item l = map place_of l.places.items ≡ map place_of l.initial.places.items ++ map (place_in l.number) (filter_map cell_in (take l.item-index l.library.items))
