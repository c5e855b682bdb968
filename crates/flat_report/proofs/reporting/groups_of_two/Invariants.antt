use Rattle.std.proofs.Common.{◌≡◌, ◌≤◌, filter, length, take}
use Rattle.flat_report.specs.Report.{has_two}
use Rattle.flat_report.proofs.reporting.groups_of_two.Given as goal

abbrev pub invariant-loop-group : goal.invariant-loop-group
invariant-loop-group l = (l.count ≤ l.group) × (l.count ≡ length (filter has_two (take l.group l.members)))
