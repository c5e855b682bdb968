use Rattle.net_flatten_rules.proofs.JoinedLaws.{WayGrown}
use Rattle.net_flatten_rules.proofs.joined.way_up.Given as goal

abbrev pub invariant-loop-at : goal.invariant-loop-at
invariant-loop-at l = WayGrown l.spots l.spot l.at l.way.items

abbrev pub decreases-loop-at : goal.decreases-loop-at
decreases-loop-at l = l.at
