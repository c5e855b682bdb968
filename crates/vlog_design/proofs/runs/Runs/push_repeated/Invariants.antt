use Rattle.std.proofs.Common.{◌≡◌, ◌++◌, ◌-◌}
use Rattle.vlog_design.specs.Exprs.{repeated}
use Rattle.vlog_design.proofs.runs.Runs.push_repeated.Given as goal

abbrev pub invariant-loop-i : goal.invariant-loop-i
invariant-loop-i l = l.self ++ repeated (l.count - l._i) l.once ≡ l.initial.self ++ repeated l.count l.once
