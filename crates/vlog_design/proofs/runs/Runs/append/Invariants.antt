use Rattle.std.proofs.Common.{◌≡◌, ◌++◌, drop}
use Rattle.vlog_design.specs.Runs.{runs_bits}
use Rattle.vlog_design.proofs.runs.Runs.append.Given as goal

abbrev pub invariant-loop-run : goal.invariant-loop-run
invariant-loop-run l = l.self ++ runs_bits (drop l.run-index l.run-items) l.other-inside.gap ≡ l.initial.self ++ runs_bits l.run-items l.other-inside.gap
