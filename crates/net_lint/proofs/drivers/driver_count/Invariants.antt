use Rattle.std.proofs.Common.{◌≡◌, ◌≤◌, filter, length, take}
use Rattle.net_lint.specs.Roles.{is_driver}
use Rattle.net_lint.proofs.drivers.driver_count.Given as goal

abbrev pub invariant-loop-role : goal.invariant-loop-role
invariant-loop-role l = (l.count ≤ l.role-index) × (l.count ≡ length (filter is_driver (take l.role-index l.roles)))
