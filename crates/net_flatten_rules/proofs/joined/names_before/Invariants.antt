use Rattle.flat_classes.specs.Ways.{instance_name}
use Rattle.net_flatten_rules.proofs.JoinedLaws.{NamesMade}
use Rattle.net_flatten_rules.proofs.joined.names_before.Given as goal

abbrev pub invariant-loop-place : goal.invariant-loop-place
invariant-loop-place l = NamesMade (instance_name l.hier.cells l.spots) l.above l.place l.names.items

abbrev pub decreases-loop-place : goal.decreases-loop-place
decreases-loop-place l = l.place
