use Rattle.std.proofs.Common.{◌≡◌, ◌++◌, drop}
use Rattle.vlog_cells.specs.Nets.{late_nets}
use Rattle.vlog_cells.proofs.nets.add_implicit.Given as goal

abbrev pub invariant-loop-number : goal.invariant-loop-number
invariant-loop-number l = l.made.items ++ late_nets l.from (drop l.number l.table) ≡ l.initial.made.items ++ late_nets l.from l.table
