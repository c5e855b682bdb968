use Rattle.std.proofs.Common.{◌+◌, ◌-◌, length}
use Rattle.flat_numbers.proofs.SpotWalk.{KeepsSpots}
use Rattle.flat_numbers.proofs.walk.layout_of.Given as goal

abbrev pub invariant-loop-spot : goal.invariant-loop-spot
invariant-loop-spot l = KeepsSpots l.cells l.top l.count l.spots.items l.stack.items l.bases.items l.base

abbrev pub decreases-loop-spot : goal.decreases-loop-spot
decreases-loop-spot l = l.count + 2 - (length l.spots.items + l.base)
