use Rattle.std.proofs.Common.{◌≡◌, filter}
use Rattle.std.specs.List.{range_with_len}
use Rattle.net_lint.specs.Groups.{drivers_at, is_first}
use Rattle.net_lint.proofs.findings.first_drivers.Given as goal

abbrev pub invariant-loop-place : goal.invariant-loop-place
invariant-loop-place l = l.firsts.items ≡ filter (λ place. is_first (drivers_at l.flat.groups l.drivers place) place) (range_with_len 0 l.place)
