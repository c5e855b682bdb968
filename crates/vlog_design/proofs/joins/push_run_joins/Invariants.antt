use Rattle.std.proofs.Common.{◌≡◌, ◌++◌, ◌-◌, drop}
use Rattle.vlog_design.specs.Design.{joins_between}
use Rattle.vlog_design.specs.Runs.{node_after, nodes_from}
use Rattle.vlog_design.proofs.joins.push_run_joins.Given as goal

abbrev pub invariant-loop-i : goal.invariant-loop-i
invariant-loop-i l = record {
  joined : l.out.items ++ joins_between l.rest (nodes_from (node_after l.run.first l.i) (l.run.count - l.i)) ≡ l.initial.out.items ++ joins_between l.initial.rest (nodes_from (node_after l.run.first 0) (l.run.count - 0));
  left : l.rest ≡ drop l.i l.initial.rest;
}
