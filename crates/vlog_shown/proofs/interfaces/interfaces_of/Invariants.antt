use Rattle.std.proofs.Common.{◌≡◌, ◌++◌, drop, map}
use Rattle.vlog_design.specs.Tables.{modules_of}
use Rattle.vlog_shown.specs.Interfaces.{interface}
use Rattle.vlog_shown.proofs.interfaces.interfaces_of.Given as goal

abbrev pub invariant-loop-m : goal.invariant-loop-m
invariant-loop-m l = l.made.items ++ map interface (modules_of (drop l.m-index l.modules)) ≡ map interface (modules_of l.modules)
