use Rattle.std.proofs.Common.{length, map, take}
use Rattle.std.specs.Prelude.{sum_by, ◌≤◌}
use Rattle.net_lint.specs.Groups.{drivers_among}
use Rattle.net_lint.proofs.Laid.{AreLaid}
use Rattle.net_lint.proofs.drivers.drivers_by_group.Given as goal

abbrev pub invariant-loop-group : goal.invariant-loop-group
invariant-loop-group l = record {
  laid : AreLaid (map (drivers_among l.roles) (take l.group l.members)) l.starts.items l.places.items;
  few : length l.places.items ≤ sum_by length (take l.group l.members);
}
