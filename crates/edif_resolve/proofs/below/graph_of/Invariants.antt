use Rattle.std.proofs.Common.{◌≡◌, map, take}
use Rattle.edif_design.specs.Reach.{those_meant}
use Rattle.edif_design.specs.References.{numbers_meant}
use Rattle.edif_design.specs.Tables.{place_of}
use Rattle.edif_resolve.proofs.below.graph_of.Given as goal

abbrev pub invariant-loop-place : goal.invariant-loop-place
invariant-loop-place l = l.graph.items ≡ map (λ place. those_meant (numbers_meant l.tables (place_of place))) (take l.place-index l.place-items)
