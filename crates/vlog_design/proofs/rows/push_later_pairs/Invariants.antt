use Rattle.std.proofs.Common.{◌≡◌, ◌++◌, ◌-◌}
use Rattle.vlog_design.specs.Design.{joins_between}
use Rattle.vlog_design.specs.Runs.{node_after, nodes_from}
use Rattle.vlog_design.proofs.rows.push_later_pairs.Given as goal

abbrev pub invariant-loop-i : goal.invariant-loop-i
invariant-loop-i l =
    l.out.items ++ joins_between (nodes_from (node_after l.left l.i) (l.count - l.i)) (nodes_from (node_after l.right l.i) (l.count - l.i))
    ≡ l.initial.out.items ++ joins_between (nodes_from (node_after l.left 1) (l.count - 1)) (nodes_from (node_after l.right 1) (l.count - 1))
