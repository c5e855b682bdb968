use Rattle.std.proofs.Common.{◌≡◌, map, take}
use Rattle.edif_design.specs.Tables.{place_of, places_from, seen}
use Rattle.edif_design.proofs.tables.places_of.Given as goal

abbrev pub invariant-loop-number : goal.invariant-loop-number
invariant-loop-number l = map place_of l.places.items ≡ places_from 0 (seen (take l.number l.libraries))
