use Rattle.std.proofs.Common.{◌≡◌, ◌++◌, drop, flat_map, length}
use Rattle.vlog_design.specs.Design.{joins_between}
use Rattle.vlog_design.specs.Runs.{run_bits}
use Rattle.vlog_design.proofs.joins.push_runs_joins.Given as goal

abbrev pub invariant-loop-run : goal.invariant-loop-run
invariant-loop-run l = record {
  joined : l.out.items ++ joins_between l.rest (flat_map run_bits (drop l.run-index l.right)) ≡ l.initial.out.items ++ joins_between l.initial.rest (flat_map run_bits l.right);
  left : drop (length (flat_map run_bits (drop l.run-index l.right))) l.rest ≡ drop (length (flat_map run_bits l.right)) l.initial.rest;
}
