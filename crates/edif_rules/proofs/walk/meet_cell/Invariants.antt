use Rattle.std.proofs.Common.{take}
use Rattle.std.specs.List.{filter_map, flat_map}
use Rattle.edif_design.specs.Parts.{contents, view_in}
use Rattle.edif_design.specs.References.{place_in}
use Rattle.edif_rules.specs.Walks.{Walks}
use Rattle.edif_rules.proofs.walk.meet_cell.Given as goal

abbrev pub invariant-loop-item : goal.invariant-loop-item
invariant-loop-item l = Walks l.tables (place_in l.home l.cell) (flat_map contents (filter_map view_in (take l.item-index l.cell.items))) l.initial.met l.best l.met
