use Rattle.std.proofs.Common.{◌≡◌, ◌++◌, filter, take}
use Rattle.net_lint.specs.Groups.{role_at}
use Rattle.net_lint.specs.Roles.{is_driver}
use Rattle.net_lint.proofs.drivers.push_drivers.Given as goal

abbrev pub invariant-loop-place : goal.invariant-loop-place
invariant-loop-place l = l.drivers.items ≡ l.fn.drivers.items ++ filter (λ place. is_driver (role_at l.roles place)) (take l.place-index l.places)
