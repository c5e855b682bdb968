use Rattle.net_flatten_cells.proofs.PlaceLaws.{PlacesFrom}
use Rattle.net_flatten_cells.proofs.places.places_of.Given as goal

abbrev pub invariant-loop-place : goal.invariant-loop-place
invariant-loop-place l = PlacesFrom l.numbers l.count l.place l.places.items

abbrev pub decreases-loop-place : goal.decreases-loop-place
decreases-loop-place l = l.place
