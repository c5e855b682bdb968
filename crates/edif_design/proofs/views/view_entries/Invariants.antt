use Rattle.std.proofs.Common.{◌≡◌, map, take}
use Rattle.std.specs.List.{filter_map}
use Rattle.edif_design.specs.Parts.{view_in}
use Rattle.edif_design.specs.Views.{entry_names, view_ident}
use Rattle.edif_design.proofs.views.view_entries.Given as goal

abbrev pub invariant-loop-item : goal.invariant-loop-item
invariant-loop-item l = entry_names l.entries.items ≡ map view_ident (filter_map view_in (take l.item-index l.cell.items))
