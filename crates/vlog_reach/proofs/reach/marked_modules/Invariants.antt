use Rattle.std.proofs.Common.{◌≡◌, ◌++◌, drop}
use Rattle.vlog_design.specs.Reach.{marked}
use Rattle.vlog_design.specs.Tables.{modules_of}
use Rattle.vlog_reach.proofs.reach.marked_modules.Given as goal

abbrev pub invariant-loop-number : goal.invariant-loop-number
invariant-loop-number l = modules_of l.found.items ++ marked (drop l.number l.marks) (drop l.number l.modules) ≡ marked l.marks l.modules
