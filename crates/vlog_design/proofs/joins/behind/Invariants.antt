use Rattle.std.proofs.Common.{◌≡◌, All, length}
use Rattle.vlog_design.specs.Runs.{IsRun, bits_behind}
use Rattle.vlog_design.proofs.joins.behind.Given as goal

abbrev pub invariant-loop-runs : goal.invariant-loop-runs
invariant-loop-runs l = record {
  are_runs : All IsRun l.runs;
  same : bits_behind l.passed l.runs ≡ bits_behind l.count l.all;
}

abbrev pub decreases-loop-runs : goal.decreases-loop-runs
decreases-loop-runs l = length l.runs
