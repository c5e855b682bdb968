use Rattle.std.proofs.Common.{ℕ, List}
use Rattle.flat_classes.specs.Ways.{IsWay}
use Rattle.flat_classes.proofs.WayLaws.{WayLeft}
use Rattle.flat_report.proofs.path.way_up.Given as goal

abbrev pub invariant-loop-at : goal.invariant-loop-at
invariant-loop-at l = (way : List ℕ) → IsWay l.spots l.spot way → WayLeft l.spots l.at l.count l.room way

abbrev pub decreases-loop-at : goal.decreases-loop-at
decreases-loop-at l = l.at
