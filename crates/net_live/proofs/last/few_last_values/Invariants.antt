use Rattle.std.proofs.Common.{◌≡◌, ◌++◌, drop}
use Rattle.net_live.specs.Last.{last_of, seen}
use Rattle.net_live.proofs.last.few_last_values.Given as goal

abbrev pub invariant-loop-place : goal.invariant-loop-place
invariant-loop-place l = seen l.kept.items ++ last_of (seen (drop l.place l.props)) ≡ last_of (seen l.props)
