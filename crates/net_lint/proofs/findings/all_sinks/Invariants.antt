use Rattle.std.proofs.Common.{◌≡◌, drop}
use Rattle.net_lint.specs.Groups.{all_sinks}
use Rattle.net_lint.proofs.findings.all_sinks.Given as goal

abbrev pub invariant-loop-place : goal.invariant-loop-place
invariant-loop-place l = all_sinks l.roles (drop l.place-index l.places) ≡ all_sinks l.roles l.places
