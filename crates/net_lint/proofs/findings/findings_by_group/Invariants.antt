use Rattle.std.proofs.Common.{◌≡◌, map, take}
use Rattle.net_lint.specs.Groups.{finding_of}
use Rattle.net_lint.proofs.findings.findings_by_group.Given as goal

abbrev pub invariant-loop-group : goal.invariant-loop-group
invariant-loop-group l = l.findings.items ≡ map (finding_of l.roles) (take l.group l.members)
