use Rattle.std.proofs.Common.{◌≡◌, map, take}
use Rattle.edif_design.specs.Parts.{ports}
use Rattle.edif_resolve.proofs.tabled.port_tables_of.Given as goal

abbrev pub invariant-loop-place : goal.invariant-loop-place
invariant-loop-place l = l.port_tables.items ≡ map (λ place. ports place.cell.now) (take l.place-index l.place-items)
