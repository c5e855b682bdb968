use Rattle.std.proofs.Common.{◌≡◌, map, take}
use Rattle.edif_design.specs.Views.{view_names}
use Rattle.edif_design.proofs.tables.cell_views.Given as goal

abbrev pub invariant-loop-place : goal.invariant-loop-place
invariant-loop-place l = l.made.items ≡ map (λ place. view_names place.cell.now) (take l.place-index l.places)
